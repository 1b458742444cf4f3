pub mod NameIndex
