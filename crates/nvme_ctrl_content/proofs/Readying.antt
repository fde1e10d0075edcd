-- Sums over the completion regions, and what they say of the places of a log.
use Rattle.std.proofs.Common.{◌≡◌, ℕ, zero, suc, ◌+◌, ◌<◌, ◌≤◌, ◌==◌, ◌&&◌, nat_lt, Bool, true, false, if◌then◌else◌, List, [], ◌∷◌, ◌++◌, length, map, refl, sym, ap, ◌∙◌, subst, arith, inl, inr, ⊎_elim}
use Rattle.std.specs.Prelude.{sum_by, All}
use Rattle.std.proofs.lemmas.Bool.{cases_eq, eq-eqb, ne_eqb}
use Rattle.std.proofs.lemmas.List.{append-nil}
use Rattle.std.proofs.lemmas.List.Sums.{sum_by-cons, sum_by-append}
use Rattle.std.proofs.lemmas.List.Elements.{All-weaker}
use Rattle.nvme_entry.specs.declared.submission.Sqe.{Sqe}
use Rattle.nvme_ctrl_content.specs.Content.{Candidate, Ready, SqContent, CqContent, put_sq, put_cq}
use Rattle.nvme_log.specs.Rules.{Past}
use Rattle.nvme_log.specs.Places.{WasAborted, WasPicked, Waits, fate_of, is_waiting, is_aborted, unaborted_below, picked, is_served, one_if}
use Rattle.nvme_ctrl_content.specs.Standing.{HoldsSq, times_in}
use Rattle.nvme_ctrl_log.specs.Regions.{over_regions}
use Rattle.nvme_ctrl_content.proofs.Windows.{times_in_window, sum_by-map, window-waits, served-or_window}

-- ---- sums over the completion regions
-- a sum over regions is that of what is the same at each of them
pub over_same : (f g : ℕ → ℕ) (n : ℕ) → ((c : ℕ) → c < n → f c ≡ g c) → over_regions f n ≡ over_regions g n
unfolding over_regions
over_same f g zero h = refl
over_same f g (suc n) h = omega (arith, over_same f g n (λ c l. h c (omega arith)), h n (omega arith))

-- a change at one region changes a sum by that region's part
pub over_put : (f g : ℕ → ℕ) (a n : ℕ) → a < n → ((c : ℕ) → (c ≡ a → ⊥) → g c ≡ f c) → over_regions g n + f a ≡ over_regions f n + g a
unfolding over_regions
over_put f g a zero l h = absurd (omega arith)
over_put f g a (suc n) l h =
    ⊎_elim
    (λ (e : n ≡ a). let rest : over_regions g n ≡ over_regions f n = over_same g f n (λ c m. h c (λ z. omega arith)) in
    let here : f n ≡ f a = ap f e in
    let there : g n ≡ g a = ap g e in
    omega arith)
    (λ (d : n ≡ a → ⊥). omega (arith, over_put f g a n (omega arith) h, h n d))
    (cases_eq n a)

-- the part of a region is within the sum
pub over_at : (f : ℕ → ℕ) (a n : ℕ) → a < n → f a ≤ over_regions f n
unfolding over_regions
over_at f a zero l = absurd (omega arith)
over_at f a (suc n) l =
    ⊎_elim
    (λ (e : n ≡ a). let here : f n ≡ f a = ap f e in omega arith)
    (λ (d : n ≡ a → ⊥). omega (arith, over_at f a n (omega arith)))
    (cases_eq n a)

-- a sum of nothing is nothing
pub over_none : (f : ℕ → ℕ) (n : ℕ) → ((c : ℕ) → c < n → f c ≡ 0) → over_regions f n ≡ 0
unfolding over_regions
over_none f zero h = refl
over_none f (suc n) h = omega (arith, over_none f n (λ c l. h c (omega arith)), h n (omega arith))

-- ---- ready completions that are added to those of one completion region
pub record GrowsBy (before after : ℕ → List Ready) (a : ℕ) (ts : List Ready) : Type 0 where
  pub here : after a ≡ before a ++ ts
  pub elsewhere : (c : ℕ) → (c ≡ a → ⊥) → after c ≡ before c

-- the ready completions of each region
abbrev pub readies : (ℕ → CqContent) → ℕ → List Ready
readies cq c = (cq c).ready

-- a sum over the ready completions of all regions
abbrev pub sum_ready : (Ready → ℕ) → (ℕ → List Ready) → ℕ → ℕ
sum_ready f ready n = over_regions (λ (c : ℕ). sum_by f (ready c)) n

-- the sum grows by that of what is added
pub sum_ready-grows : (f : Ready → ℕ) (before after : ℕ → List Ready) (a n : ℕ) (ts : List Ready) → GrowsBy before after a ts → a < n
    → sum_ready f after n ≡ sum_ready f before n + sum_by f ts
sum_ready-grows f before after a n ts g l =
    let put = over_put (λ (c : ℕ). sum_by f (before c)) (λ (c : ℕ). sum_by f (after c)) a n l (λ c d. ap (sum_by f) (g.elsewhere c d)) in
    let here : sum_by f (after a) ≡ sum_by f (before a) + sum_by f ts = ap (sum_by f) g.here ∙ sum_by-append f (before a) ts in
    omega arith

-- what is put into a completion region grows it
pub put-grows : (cq : ℕ → CqContent) (a : ℕ) (ts : List Ready)
    → GrowsBy (readies cq) (readies (put_cq cq a (record (cq a) { ready = (cq a).ready ++ ts }))) a ts
put-grows cq a ts = record {
  here = rw (eq-eqb a a refl, readies) refl;
  elsewhere = λ c d. rw (ne_eqb c a d, readies) refl;
}

-- where nothing is added, nothing changes
pub none-grows : (ready : ℕ → List Ready) (a : ℕ) → GrowsBy ready ready a []
none-grows ready a = record { here = sym (append-nil (ready a)); elsewhere = λ c d. refl }

-- the oldest ready completion of one completion region that is taken
pub record Pops (before after : ℕ → List Ready) (a : ℕ) (t : Ready) : Type 0 where
  pub here : before a ≡ t ∷ after a
  pub elsewhere : (c : ℕ) → (c ≡ a → ⊥) → after c ≡ before c

-- the sum falls by that of what is taken
pub sum_ready-pops : (f : Ready → ℕ) (before after : ℕ → List Ready) (a n : ℕ) (t : Ready) → Pops before after a t → a < n
    → sum_ready f before n ≡ sum_ready f after n + f t
sum_ready-pops f before after a n t p l =
    let put = over_put (λ (c : ℕ). sum_by f (before c)) (λ (c : ℕ). sum_by f (after c)) a n l (λ c d. ap (sum_by f) (p.elsewhere c d)) in
    let here : sum_by f (before a) ≡ f t + sum_by f (after a) = ap (sum_by f) p.here ∙ sum_by-cons f t (after a) in
    omega arith

-- what holds of each completion region holds where another was put at one place
pub at_put_cq : (P : ℕ → CqContent → Type 0) (cq : ℕ → CqContent) (a : ℕ) (x : CqContent) → P a x → ((c : ℕ) → (c ≡ a → ⊥) → P c (cq c)) → (c : ℕ) → P c (put_cq cq a x c)
at_put_cq P cq a x here there c =
    elim (cases_eq c a) [
      | inl e ↦ subst (λ (z : ℕ). P z (put_cq cq a x z)) (sym e) (rw (eq-eqb a a refl, put_cq) here)
      | inr d ↦ rw (ne_eqb c a d, put_cq) (there c d)
    ]

-- ---- places
-- sums of what is the same at each element are the same
pub sum_by-same : {X : Type 0} (f g : X → ℕ) (xs : List X) → ((x : X) → f x ≡ g x) → sum_by f xs ≡ sum_by g xs
sum_by-same {X = X} f g xs h = ap (λ (z : X → ℕ). sum_by z xs) (λ i x. h x i)

-- a sum of nothing
pub sum_by-none : {X : Type 0} (xs : List X) → sum_by (λ (x : X). 0) xs ≡ 0
sum_by-none {X = X} [] = refl
sum_by-none {X = X} (x ∷ xs) = omega (arith, sum_by-cons (λ (y : X). 0) x xs, sum_by-none xs)

-- between two states of a region this many of a place's candidates were served
abbrev pub Moves : (i moved : ℕ) → SqContent → SqContent → Type 0
Moves i moved s t = one_if (nat_lt i (length t.got)) + times_in_window i s.window ≡ one_if (nat_lt i (length s.got)) + times_in_window i t.window + moved

-- this number more are served in the log
pub served-moves : (past later : Past) (r i moved : ℕ) (s t : SqContent) → HoldsSq past r s → HoldsSq later r t → Moves i moved s t
    → one_if (is_served later r i) ≡ one_if (is_served past r i) + moved
served-moves past later r i moved s t before after e =
    let got_before = ap (λ (xs : List Sqe). one_if (nat_lt i (length xs))) before.fetched_is in
    let got_after = ap (λ (xs : List Sqe). one_if (nat_lt i (length xs))) after.fetched_is in
    omega (arith, served-or_window past r s before i, served-or_window later r t after i)

-- what holds of a region before and after another was put at one place
pub at_put : (P : ℕ → SqContent → SqContent → Type 0) (sq : ℕ → SqContent) (a : ℕ) (x : SqContent) → P a (sq a) x
    → ((r : ℕ) → (r ≡ a → ⊥) → P r (sq r) (sq r)) → (r : ℕ) → P r (sq r) (put_sq sq a x r)
at_put P sq a x here there r =
    elim (cases_eq r a) [
      | inl e ↦ subst (λ (z : ℕ). P z (sq z) (put_sq sq a x z)) (sym e) (rw (eq-eqb a a refl, put_sq) here)
      | inr d ↦ rw (ne_eqb r a d, put_sq) (there r d)
    ]

-- completions that were made of candidates of region a
pub record IsMade (a : ℕ) (f : Candidate → Ready) : Type 0 where
  pub region : (c : Candidate) → (f c).place.region ≡ a
  pub index : (c : Candidate) → (f c).place.index ≡ c.index

-- are those of the candidates' places in that region
pub times_in-own : (a i : ℕ) (f : Candidate → Ready) (xs : List Candidate) → IsMade a f → times_in a i (map f xs) ≡ times_in_window i xs
times_in-own a i f xs m =
    sum_by-map (λ (t : Ready). one_if (t.place.region == a && t.place.index == i)) f xs
    ∙ sum_by-same _ (λ (c : Candidate). one_if (c.index == i)) xs (λ c. rw (m.region c, m.index c, eq-eqb a a refl) refl)

-- and of none in another region
pub times_in-other : (a r i : ℕ) (f : Candidate → Ready) (xs : List Candidate) → IsMade a f → (r ≡ a → ⊥) → times_in r i (map f xs) ≡ 0
times_in-other a r i f xs m d =
    sum_by-map (λ (t : Ready). one_if (t.place.region == r && t.place.index == i)) f xs
    ∙ sum_by-same _ (λ (c : Candidate). 0) xs (λ c. rw (m.region c, ne_eqb a r (λ e. d (sym e))) refl)
    ∙ sum_by-none xs

-- no candidate is aborted
pub waiting-unaborted : (past : Past) (r : ℕ) (s : SqContent) → HoldsSq past r s → All (λ (c : Candidate). is_aborted past r c.index ≡ false) s.window
waiting-unaborted past r s h =
    All-weaker (λ (c : Candidate). is_waiting (fate_of past r c.index) ≡ true) (λ (c : Candidate). is_aborted past r c.index ≡ false)
    (λ c w. unaborted (is_aborted past r c.index) (nat_lt (unaborted_below past r c.index) (picked past r)) w) s.window (window-waits past r s h) where
      unaborted : (a b : Bool) → is_waiting (if a then WasAborted else (if b then WasPicked else Waits)) ≡ true → a ≡ false
      unaborted true b e = cc
      unaborted false b e = refl
