-- Next: what a stream draws is what the rules allow, and what agreed still agrees.
pub mod Due
pub mod Cuts
pub mod Drawn
pub mod NextKeeps
pub mod NextWhole
