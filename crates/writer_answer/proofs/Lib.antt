pub mod CopyPromise
pub mod CataloguePromise
