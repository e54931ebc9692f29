mod FixedOwners
mod Masks
mod UseOrder
