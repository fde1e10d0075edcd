-- Which channels are idle, and which commands may run there.
use Rattle.std.proofs.Common.{◌≡◌, ◌∙◌, ℕ, suc, ◌+◌, ◌-◌, ◌<◌, ◌≤◌, Bool, true, false, nat_lt, cond, List, length, get_or, set, take, drop, Option, Some, None, inl, inr, sym, ap, refl, arith}
use Rattle.std.specs.Prelude.{All, option_map, position, remove, slice_range}
use Rattle.std.specs.List.{position_or_len}
use Rattle.std.proofs.lemmas.Bool.{cases_eq}
use Rattle.std.proofs.lemmas.Bool.Decides.{nat_tests}
use Rattle.std.proofs.lemmas.List.{get_or-set_other, get_or-set_same, length-set}
use Rattle.std.proofs.lemmas.List.Edits.{get_or-between, length-between}
use Rattle.std.proofs.lemmas.List.Elements.{All-append, All-drop, All-take}
use Rattle.std.proofs.lemmas.List.Quantifiers.{position-Some}
use Rattle.std.proofs.lemmas.List.Sums.{fails_before_first}
use Rattle.nvme_channels.specs.declared.channel.Channel.{Channel}
use Rattle.nvme_channels.specs.declared.placement.Reach.{Reach}
use Rattle.nvme_channels.specs.Channel.{is_idle}
use Rattle.nvme_channels.specs.Devices.{idle, idle_in}
use Rattle.nvme_channels.specs.Laws.{NoneIdle}
use Rattle.nvme_channels.specs.Reaches.{reaches}

-- where no element passes
pub none_passes : {X : Type 0} (p : X → Bool) (xs : List X) (k : ℕ) (d : X) → position p xs ≡ None → k < length xs → p (get_or xs k d) ≡ false
none_passes {X} p xs k d e l = go (nat_lt (position_or_len p xs) (length xs)) refl e
  where
    go : (b : Bool) → nat_lt (position_or_len p xs) (length xs) ≡ b → cond b (Some (position_or_len p xs)) None ≡ None → p (get_or xs k d) ≡ false
    go true t e = cc
    go false t e = let past : length xs ≤ position_or_len p xs = grind (arith, nat_tests) in fails_before_first p xs k d (omega (arith, past, l))

-- what holds of each holds of each but one
pub others : {X : Type 0} (P : X → Type 0) (xs : List X) (i : ℕ) → All P xs → All P (remove xs i)
others P xs i h = All-append P (take i xs) (drop (suc i) xs) (All-take P i xs h) (All-drop P (suc i) xs h)

-- a channel of them becomes another, which isn't idle or on which the command may not run
pub busy_set : (channels : List Channel) (k : ℕ) (c : Channel) (r : Reach) → is_idle c ≡ false → NoneIdle channels r → NoneIdle (set channels k c) r
busy_set channels k c r busy none j l t =
    let within : j < length channels = omega (arith, l, length-set channels k c) in
    elim (cases_eq j k) [
      | inl e ↦ rw e (let here : k < length channels = omega (arith, within, e) in rw (get_or-set_same channels k c idle here) busy)
      | inr ne ↦ rw (get_or-set_other channels k j c idle ne) (none j within t)
    ]

pub apart_set : (channels : List Channel) (k : ℕ) (c : Channel) (r : Reach) → reaches r k ≡ false → NoneIdle channels r → NoneIdle (set channels k c) r
apart_set channels k c r apart none j l t =
    let within : j < length channels = omega (arith, l, length-set channels k c) in
    elim (cases_eq j k) [
      | inl e ↦ let here : reaches r k ≡ true = rw e at t in absurd cc
      | inr ne ↦ rw (get_or-set_other channels k j c idle ne) (none j within t)
    ]

-- where a search of a command's channels finds none
pub none_found : (channels : List Channel) (r : Reach) → r.end ≤ length channels → idle_in channels r ≡ None → NoneIdle channels r
none_found channels r within e k l t = go (position is_idle (slice_range channels r.first r.end)) refl e
  where
    go : (o : Option ℕ) → position is_idle (slice_range channels r.first r.end) ≡ o → option_map (λ i. r.first + i) o ≡ None
        → is_idle (get_or channels k idle) ≡ false
    go (Some i) is e = cc
    go None is e =
        let from : r.first ≤ k = grind (arith, nat_tests) in
        let to : k < r.end = grind (arith, nat_tests) in
        let at : r.first + (k - r.first) ≡ k = omega (arith, from) in
        let below : k - r.first < length (slice_range channels r.first r.end) = omega (arith, length-between channels r.first r.end within, from, to) in
        let same : get_or (slice_range channels r.first r.end) (k - r.first) idle ≡ get_or channels (r.first + (k - r.first)) idle =
        get_or-between channels r.first r.end (k - r.first) idle (omega (arith, from, to)) in
        let found = none_passes is_idle (slice_range channels r.first r.end) (k - r.first) idle is below in
        ap is_idle (ap (λ (j : ℕ). get_or channels j idle) (sym at)) ∙ ap is_idle (sym same) ∙ found

-- where it finds one
pub found : (channels : List Channel) (r : Reach) (k : ℕ) → r.end ≤ length channels → idle_in channels r ≡ Some k
    → (k < length channels) × (is_idle (get_or channels k idle) ≡ true)
found channels r k within e = go (position is_idle (slice_range channels r.first r.end)) refl e
  where
    go : (o : Option ℕ) → position is_idle (slice_range channels r.first r.end) ≡ o → option_map (λ i. r.first + i) o ≡ Some k
        → (k < length channels) × (is_idle (get_or channels k idle) ≡ true)
    go None is e = cc
    go (Some i) is e =
        let at : r.first + i ≡ k = cc in
        let first = position-Some is_idle (slice_range channels r.first r.end) i idle is in
        let below : i < r.end - r.first = omega (arith, first.0, length-between channels r.first r.end within) in
        let same : get_or (slice_range channels r.first r.end) i idle ≡ get_or channels (r.first + i) idle =
        get_or-between channels r.first r.end i idle (omega (arith, below)) in (
          omega (arith, at, below, within),
          rw (← at) (ap is_idle (sym same) ∙ first.1),
        )

pub idle_rests : (c : Channel) → is_idle c ≡ true → c.running ≡ false
idle_rests c e = go c.running refl e
  where
    go : (b : Bool) → c.running ≡ b → is_idle c ≡ true → c.running ≡ false
    go true t e = let no : is_idle c ≡ false = rw t refl in absurd cc
    go false t e = t
