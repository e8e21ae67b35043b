mod Spans
mod Values
mod Rows
mod Ranges
mod Headers
