-- What each event keeps beside the agreement: vectors in normal form, and fragments that list issued items alone; so no record is answered as forged.
pub mod Turns
pub mod NormalForm
pub mod PiecesListMore
pub mod ListedItems
pub mod NeverForged
