-- What a run tests before it does anything (Check), what it answers (Answered), what the inner functions ask (Inside), and what the structs hold (Held).
pub mod Check
pub mod Answered
pub mod Inside
pub mod Held
