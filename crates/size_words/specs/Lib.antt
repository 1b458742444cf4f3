pub mod SizeWords
