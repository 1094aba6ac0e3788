pub mod RecordBack
pub mod CatalogueBack
pub mod OneText
