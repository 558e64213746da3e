pub mod Catalogues
pub mod CoreTie
pub mod Faults
pub mod Finders
pub mod Publications
pub mod Versions
