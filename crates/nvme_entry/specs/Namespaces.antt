-- Namespaces as the list of their sizes in logical blocks. (Base Specification, Namespaces)
use Rattle.std.specs.Prelude.{◌≡◌, ℕ, ◌-◌, ◌≤◌, ◌==◌, List, ◌++◌, length, take, replicate, Option, None, slice_get, All, if◌then◌else◌}
use Rattle.std.proofs.Common.{sym, arith, length-take}

-- the size of a namespace: the first has identifier 1, and identifier 0 names none
abbrev pub size_at : List ℕ → ℕ → Option ℕ
size_at sizes nsid = if nsid == 0 then None else slice_get sizes (nsid - 1)

-- 16 places that begin with the sizes, with 0 in the others
abbrev pub padded : List ℕ → List ℕ
padded sizes = sizes ++ replicate (16 - length sizes) 0

-- the first `count` of the places are the sizes, none of which is 0, and the others are 0
pub record IsPadded (places : List ℕ) (count : ℕ) : Type 0 where
  pub whole : length places ≡ 16
  pub fits : count ≤ 16
  pub zeros : places ≡ take count places ++ replicate (16 - count) 0
  pub none_empty : All (λ size. 1 ≤ size) (take count places)

pub length-take-padded : (places : List ℕ) (count : ℕ) → IsPadded places count → length (take count places) ≡ count
length-take-padded places count h = omega (arith, length-take count places, h.whole, h.fits)

pub take-padded : (places : List ℕ) (count : ℕ) → IsPadded places count → padded (take count places) ≡ places
take-padded places count h = rw (length-take-padded places count h) (sym h.zeros)
