pub mod Copy
pub mod CopyPromise
pub mod Catalogue
pub mod CataloguePromise
