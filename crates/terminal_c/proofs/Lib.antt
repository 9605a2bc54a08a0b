mod HeldValues
mod IsMade
mod LooseValues
mod Standing
