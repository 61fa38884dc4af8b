-- The worked rows of the definitions, computed.
mod Rows
