pub mod Words
pub mod Result
