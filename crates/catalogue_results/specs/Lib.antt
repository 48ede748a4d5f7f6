-- What an answer about a catalogue is as a struct for C. Assumes nothing.
pub mod Results
