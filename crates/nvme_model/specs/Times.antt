-- The order of the stages of a command. (profile)
use Rattle.std.specs.Prelude.{◌≤◌, ℕ}

pub record InOrder (came submitted picked started done : ℕ) : Type 0 where
  pub submitted_later : came ≤ submitted
  pub picked_later : submitted ≤ picked
  pub started_later : picked ≤ started
  pub done_later : started ≤ done
