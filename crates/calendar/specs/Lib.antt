pub mod Calendar
pub mod Order
pub mod Even
