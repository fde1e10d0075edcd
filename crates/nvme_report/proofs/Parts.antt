-- A text of parts, written in turn.
use Rattle.std.proofs.Common.{ℕ, List, ◌++◌, Option, Result, IsErr}
use Rattle.std.specs.Io.KnownBytes.{Appends}
use Rattle.nvme_output.specs.Written.{AppendsPrefix, Writes}
use Rattle.nvme_output.proofs.Writing.{fails_first, writes_then}

-- the second part failed to be written
pub fails_second : {T E : Type 0} (a b c : Option (List ℕ)) (r : Result T E) (m p rest : List ℕ) → IsErr r
    → Appends a b m → AppendsPrefix b c p → Writes a c r (m ++ (p ++ rest))
fails_second a b c r m p rest failed done prefix = writes_then a b c r m (p ++ rest) done (fails_first b c r p rest failed prefix)

-- the third part
pub fails_third : {T E : Type 0} (a b c d : Option (List ℕ)) (r : Result T E) (m p q rest : List ℕ) → IsErr r
    → Appends a b m → Appends b c p → AppendsPrefix c d q → Writes a d r (m ++ (p ++ (q ++ rest)))
fails_third a b c d r m p q rest failed done more prefix =
    writes_then a b d r m (p ++ (q ++ rest)) done (fails_second b c d r p q rest failed more prefix)

-- the fourth part
pub fails_fourth : {T E : Type 0} (a b c d e : Option (List ℕ)) (r : Result T E) (m p q s rest : List ℕ) → IsErr r
    → Appends a b m → Appends b c p → Appends c d q → AppendsPrefix d e s → Writes a e r (m ++ (p ++ (q ++ (s ++ rest))))
fails_fourth a b c d e r m p q s rest failed done more then prefix =
    writes_then a b e r m (p ++ (q ++ (s ++ rest))) done (fails_third b c d e r p q s rest failed more then prefix)

-- the fifth part
pub fails_fifth : {T E : Type 0} (a b c d e f : Option (List ℕ)) (r : Result T E) (m p q s t rest : List ℕ) → IsErr r
    → Appends a b m → Appends b c p → Appends c d q → Appends d e s → AppendsPrefix e f t → Writes a f r (m ++ (p ++ (q ++ (s ++ (t ++ rest)))))
fails_fifth a b c d e f r m p q s t rest failed done more then last prefix =
    writes_then a b f r m (p ++ (q ++ (s ++ (t ++ rest)))) done (fails_fourth b c d e f r p q s t rest failed more then last prefix)

-- five parts, and then what was written of the sixth
pub writes_sixth : {T E : Type 0} (a b c d e f g : Option (List ℕ)) (r : Result T E) (m p q s t u : List ℕ)
    → Appends a b m → Appends b c p → Appends c d q → Appends d e s → Appends e f t → Writes f g r u
    → Writes a g r (m ++ (p ++ (q ++ (s ++ (t ++ u)))))
writes_sixth a b c d e f g r m p q s t u one two three four five six =
    writes_then a b g r m (p ++ (q ++ (s ++ (t ++ u)))) one (writes_then b c g r p (q ++ (s ++ (t ++ u))) two
    (writes_then c d g r q (s ++ (t ++ u)) three (writes_then d e g r s (t ++ u) four (writes_then e f g r t u five six))))
