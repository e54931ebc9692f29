pub mod Instruction
pub mod Opcodes
pub mod Registers
pub mod Spelling
pub mod Symbol
