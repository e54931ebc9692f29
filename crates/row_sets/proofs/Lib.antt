pub mod Places
mod Words
mod Classes
mod Search
mod Firsts
mod Soonest
mod Times
