-- What each place of the lent tables is (Layout), how long they must be (Lengths), the tables read as a state (Decode) and a state written over tables (Encode), the start numbers read as grains
-- (Inputs), what it means that tables hold a state (Holds), where each row stands (Parts), what the leaves on rows of numbers ask and answer (Rows), those on rows of events (Queues), what those on
-- runs of places say to each other (Places), and the parts behind the headers (Bodies).
pub mod Layout
pub mod Lengths
pub mod Decode
pub mod Encode
pub mod Inputs
pub mod Holds
pub mod Parts
pub mod Rows
pub mod Queues
pub mod Places
pub mod Bodies
