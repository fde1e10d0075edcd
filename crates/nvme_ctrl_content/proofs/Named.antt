-- The oldest candidate of a window with a command identifier, and what an Abort command makes of it.
use Rattle.std.proofs.Common.{◌≡◌, ℕ, ◌+◌, ◌==◌, Bool, true, false, not, if◌then◌else◌, List, [], ◌∷◌, ◌++◌, map, filter, take, length, Option, Some, None, refl, sym, ap, ◌∙◌, arith, All}
use Rattle.std.proofs.lemmas.List.Filters.{sum_by-filter_both}
use Rattle.std.specs.Prelude.{option_to_list, sum_by}
use Rattle.std.proofs.lemmas.Option.{same_Some}
use Rattle.std.proofs.lemmas.List.{length-append, map-append}
use Rattle.std.proofs.lemmas.List.Sums.{sum_by-cons, sum_by-append, sum_by-take-drop}
use Rattle.std.proofs.lemmas.List.Elements.{All-cons, All-head, All-tail, All-same}
use Rattle.nvme_entry.specs.declared.submission.Sqe.{Sqe}
use Rattle.nvme_ctrl_content.specs.Content.{Candidate, SqContent}
use Rattle.nvme_log.specs.declared.event.Event.TheVariants as event
use Rattle.nvme_log.specs.Rules.{Past}
use Rattle.nvme_log.specs.Queues.{Queue}
use Rattle.nvme_log.specs.Places.{entry_at, one_if, waiting}
use Rattle.nvme_log.specs.Effects.{abort_in, has_cid, named}
use Rattle.nvme_ctrl_content.specs.Standing.{HoldsSq}
use Rattle.nvme_ctrl_content.specs.Steps.{oldest_named, without_oldest}
use Rattle.nvme_ctrl_content.proofs.Windows.{times_in_window}

-- it is the first of the places that wait and are named
pub first_named : (past : Past) (r cid : ℕ) (s : SqContent) → HoldsSq past r s
    → take 1 (named past r cid) ≡ map (λ (c : Candidate). c.index) (option_to_list (oldest_named cid s.window))
first_named past r cid s h = ap (λ (is : List ℕ). take 1 (filter (λ (i : ℕ). has_cid cid (entry_at past r i)) is)) h.waiting_is ∙ first s.window h.entries where
  first : (cs : List Candidate) → All (λ (c : Candidate). entry_at past r c.index ≡ Some c.entry) cs
      → take 1 (filter (λ (i : ℕ). has_cid cid (entry_at past r i)) (map (λ (c : Candidate). c.index) cs)) ≡ map (λ (c : Candidate). c.index) (option_to_list (oldest_named cid cs))
  first [] each = refl
  first (c ∷ cs) each =
      by (c.entry.cid == cid) refl (first cs (All-tail (λ (d : Candidate). entry_at past r d.index ≡ Some d.entry) c cs each)) where
        tells : has_cid cid (entry_at past r c.index) ≡ (c.entry.cid == cid)
        tells = ap (λ (o : Option Sqe). has_cid cid o) (All-head (λ (d : Candidate). entry_at past r d.index ≡ Some d.entry) c cs each)

        by : (b : Bool) → (c.entry.cid == cid) ≡ b
            → take 1 (filter (λ (i : ℕ). has_cid cid (entry_at past r i)) (map (λ (d : Candidate). d.index) cs)) ≡ map (λ (d : Candidate). d.index) (option_to_list (oldest_named cid cs))
            → take 1 (filter (λ (i : ℕ). has_cid cid (entry_at past r i)) (map (λ (d : Candidate). d.index) (c ∷ cs)))
            ≡ map (λ (d : Candidate). d.index) (option_to_list (oldest_named cid (c ∷ cs)))
        by true e later = rw (tells, e) refl
        by false e later = rw (tells, e) later

-- a window with this candidate among others, and the window without it
pub record Splits (cid : ℕ) (cs : List Candidate) (found : Candidate) : Type 0 where
  pub before : List Candidate
  pub behind : List Candidate
  pub whole : cs ≡ before ++ found ∷ behind
  pub left : without_oldest cid cs ≡ before ++ behind

-- so it is with the oldest that has the identifier
pub splits : (cid : ℕ) (cs : List Candidate) (found : Candidate) → oldest_named cid cs ≡ Some found → Splits cid cs found
splits cid [] found h = cc h
splits cid (c ∷ cs) found h = by (c.entry.cid == cid) refl h (splits cid cs found) where
  by : (b : Bool) → (c.entry.cid == cid) ≡ b → (if b then Some c else oldest_named cid cs) ≡ Some found → (oldest_named cid cs ≡ Some found → Splits cid cs found)
      → Splits cid (c ∷ cs) found
  by true e here later = record {
    before = [];
    behind = cs;
    whole = ap (λ (d : Candidate). d ∷ cs) (same_Some c found here);
    left = rw e refl;
  }
  by false e there later =
      let rest = later there in
      record {
        before = c ∷ rest.before;
        behind = rest.behind;
        whole = ap (λ (ds : List Candidate). c ∷ ds) rest.whole;
        left = rw e (ap (λ (ds : List Candidate). c ∷ ds) rest.left);
      }

-- what holds of each item holds of one among them
All-middle : (P : Candidate → Type 0) (xs ys : List Candidate) (x : Candidate) → All P (xs ++ x ∷ ys) → P x
All-middle P [] ys x h = All-head P x ys h
All-middle P (y ∷ xs) ys x h = All-middle P xs ys x (All-tail P y (xs ++ x ∷ ys) h)

module _ (cid : ℕ) (cs : List Candidate) (found : Candidate) (h : oldest_named cid cs ≡ Some found) where
  -- what holds of each candidate holds of it
  pub found_is : (P : Candidate → Type 0) → All P cs → P found
  found_is P each =
      let it = splits cid cs found h in
      All-middle P it.before it.behind found (All-same P (it.before ++ found ∷ it.behind) cs (sym it.whole) each)

  -- the window without it has one candidate less
  pub found_one : length (without_oldest cid cs) + 1 ≡ length cs
  found_one =
      let it = splits cid cs found h in
      let whole : length cs ≡ length (it.before ++ found ∷ it.behind) = ap length it.whole in
      let left : length (without_oldest cid cs) ≡ length (it.before ++ it.behind) = ap length it.left in
      omega (arith, whole, left, length-append it.before (found ∷ it.behind), length-append it.before it.behind)

  -- and an index stands in it as often, but for that of this candidate
  pub found_times : (i : ℕ) → times_in_window i cs ≡ one_if (found.index == i) + times_in_window i (without_oldest cid cs)
  found_times i =
      let it = splits cid cs found h in
      let here = λ (c : Candidate). one_if (c.index == i) in
      omega (
        arith,
        ap (times_in_window i) it.whole,
        ap (times_in_window i) it.left,
        sum_by-append here it.before (found ∷ it.behind),
        sum_by-append here it.before it.behind,
        sum_by-cons here found it.behind,
      )

-- what holds of each candidate holds of those that are left
pub left_hold : (P : Candidate → Type 0) (cid : ℕ) (ws : List Candidate) → All P ws → All P (without_oldest cid ws)
left_hold P cid [] all = all
left_hold P cid (c ∷ rest) all = by (c.entry.cid == cid) (left_hold P cid rest (All-tail P c rest all)) where
  by : (b : Bool) → All P (without_oldest cid rest) → All P (if b then rest else c ∷ without_oldest cid rest)
  by true later = All-tail P c rest all
  by false later = All-cons P c (without_oldest cid rest) (All-head P c rest all) later

-- ---- what an Abort command makes
-- so an Abort command aborts it
pub made_abort : (past : Past) (cid : ℕ) (queue : Queue) (s : SqContent) (found : Candidate) → HoldsSq past queue.region s → oldest_named cid s.window ≡ Some found
    → abort_in past cid (Some queue) ≡ event.Abort queue.region found.index ∷ []
made_abort past cid queue s found h is =
    ap (λ (is : List ℕ). map (λ (i : ℕ). event.Abort queue.region i) is)
    (first_named past queue.region cid s h ∙ ap (λ (o : Option Candidate). map (λ (c : Candidate). c.index) (option_to_list o)) is)

-- and none where there is none
pub made_none : (past : Past) (cid : ℕ) (queue : Queue) (s : SqContent) → HoldsSq past queue.region s → oldest_named cid s.window ≡ None
    → abort_in past cid (Some queue) ≡ []
made_none past cid queue s h is =
    ap (λ (is : List ℕ). map (λ (i : ℕ). event.Abort queue.region i) is)
    (first_named past queue.region cid s h ∙ ap (λ (o : Option Candidate). map (λ (c : Candidate). c.index) (option_to_list o)) is)

-- the places that wait split as the window does
pub waiting_splits : (past : Past) (r : ℕ) (s : SqContent) (cid : ℕ) (found : Candidate) → HoldsSq past r s → (p : Splits cid s.window found)
    → waiting past r ≡ map (λ (c : Candidate). c.index) p.before ++ found.index ∷ map (λ (c : Candidate). c.index) p.behind
waiting_splits past r s cid found h p =
    h.waiting_is ∙ ap (map (λ (c : Candidate). c.index)) p.whole ∙ map-append (λ (c : Candidate). c.index) p.before (found ∷ p.behind)

-- a list of which nothing counts has no part that counts
none_among : (f : ℕ → ℕ) (test : ℕ → Bool) (xs : List ℕ) → sum_by f xs ≡ 0 → sum_by f (take 1 (filter test xs)) ≡ 0
none_among f test xs h =
    omega (
      arith,
      h,
      sum_by-filter_both test (λ (x : ℕ). not (test x)) (λ x. refl) f xs,
      sum_by-take-drop f (filter test xs) 1,
    )

-- what an Abort command aborts is a place that waited
pub named_among : (f : ℕ → ℕ) (past : Past) (r cid : ℕ) → sum_by f (waiting past r) ≡ 0 → sum_by f (take 1 (named past r cid)) ≡ 0
named_among f past r cid h = none_among f (λ (i : ℕ). has_cid cid (entry_at past r i)) (waiting past r) h
