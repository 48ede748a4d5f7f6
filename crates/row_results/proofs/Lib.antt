-- What a row is as a struct, number by number.
mod RowLaws
