pub mod FolderLemmas
pub mod PathLemmas
pub mod ScanLemmas
pub mod SpoiledLemmas
