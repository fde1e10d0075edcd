mod Explaining
mod Inputs
mod Foreseeing
