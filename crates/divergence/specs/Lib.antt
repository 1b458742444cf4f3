pub mod InnerStatements
