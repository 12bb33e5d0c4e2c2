-- Laws of the exported calls: that one outcome fits each (Single), and that they promise what the calls behind them do (Promised).
pub mod Single
pub mod Promised
