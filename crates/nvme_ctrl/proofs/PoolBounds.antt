-- What is unposted holds a slot of the pool: so the counts of a controller are within its pool.
use Rattle.std.proofs.Common.{◌≡◌, ℕ, zero, suc, ◌+◌, ◌<◌, ◌≤◌, ◌==◌, ◌&&◌, ◌||◌, not, nat_lt, if◌then◌else◌, Bool, true, false, List, [], ◌∷◌, length, sum_by, refl, sym, ap, ◌∙◌, arith, inl, inr, true≢false}
use Rattle.std.proofs.lemmas.Bool.{cases_eq, cases_lt, eq-eqb, ne_eqb}
use Rattle.std.proofs.lemmas.List.{length-map}
use Rattle.std.proofs.lemmas.List.Sums.{sum_by_push}
use Rattle.nvme_log.specs.declared.event.Event.TheVariants.{Post}
use Rattle.nvme_log.specs.Aborts.{is_abort_requested}
use Rattle.nvme_log.specs.Completions.{is_posted, posts_of, takes_place, unposted_of}
use Rattle.nvme_log.specs.Laws.{count_of}
use Rattle.nvme_log.specs.Places.{fetched, waiting, places, picked, is_aborted, unaborted_below, fate_of, is_waiting, is_picked, is_served, one_if}
use Rattle.nvme_log.specs.Rules.{FrontRules, Past, upto, sq_regions_of}
use Rattle.nvme_log.proofs.Counting.{counts_same, counts_less, counts_change, fate_by}
use Rattle.nvme_log.proofs.Posts.{posts_of-some}
use Rattle.nvme_ctrl_log.specs.Notes.{Notes, logged}
use Rattle.nvme_ctrl_log.specs.Tags.{all_fetches, all_posts}
use Rattle.nvme_slots.specs.declared.slot.Slot.{Slot}
use Rattle.nvme_ctrl.specs.declared.state.Controller.{Controller}
use Rattle.nvme_ctrl_content.specs.Content.{Candidate, Content}
use Rattle.nvme_ctrl.specs.kept.Kept.{StandsAt}
use Rattle.nvme_ctrl_content.specs.Standing.{Holds, hand_of}
use Rattle.nvme_ctrl_log.proofs.AbortRequests.{unrequested}
use Rattle.nvme_ctrl_content.proofs.FewUnposted.{part_of}
use Rattle.nvme_ctrl.proofs.HeldSlots.{fetches-by, fetched_none}
use Rattle.nvme_ctrl_content.proofs.PostedPlaces.{posted_places, posted_served, unposted_by}
use Rattle.nvme_ctrl_log.proofs.OutstandingPlaces.{outstanding_of}
use Rattle.nvme_ctrl_log.proofs.Sums.{sum_less, sum_add, sum_more, at_most}

-- ---- posts by region
-- where each place has at most one completion, and each posted place is one of these, no more completions were posted than of these places are posted
posts-within : (m : ℕ → ℕ) (n : ℕ) (past : Past) → ((r i : ℕ) → posts_of past r i ≤ 1) → ((r i : ℕ) → is_posted past r i ≡ true → (r < n) × (i < m r))
    → all_posts past ≤ sum_by (λ (r : ℕ). count_of (λ (i : ℕ). is_posted past r i) (upto (m r))) (upto n)
posts-within m n [] one inside = omega arith
posts-within m n (Post c r0 i0 cqe ∷ past) one inside =
    let before : ℕ → ℕ = λ (r : ℕ). count_of (λ (i : ℕ). is_posted past r i) (upto (m r)) in
    let after : ℕ → ℕ = λ (r : ℕ). count_of (λ (i : ℕ). is_posted (Post c r0 i0 cqe ∷ past) r i) (upto (m r)) in
    let same : (r0 == r0 && i0 == i0) ≡ true = rw (eq-eqb r0 r0 refl, eq-eqb i0 i0 refl) refl in
    let here : is_posted (Post c r0 i0 cqe ∷ past) r0 i0 ≡ true = ap (λ (b : Bool). b || is_posted past r0 i0) same in
    let once : posts_of past r0 i0 + 1 ≤ 1 = more_here (r0 == r0 && i0 == i0) (posts_of past r0 i0) same (one r0 i0) in
    let within = inside r0 i0 here in
    let step = sum_more before after r0 n within.0
    (λ r other. counts_same (λ (i : ℕ). is_posted past r i) (λ (i : ℕ). is_posted (Post c r0 i0 cqe ∷ past) r i)
    (λ i. ap (λ (b : Bool). (b && i0 == i) || is_posted past r i) (ne_eqb r0 r other)) (upto (m r)))
    (let change = counts_change (λ (i : ℕ). is_posted past r0 i) (λ (i : ℕ). is_posted (Post c r0 i0 cqe ∷ past) r0 i) i0 (m r0) within.1
    (λ j other. no_index (r0 == r0) (i0 == j) (is_posted past r0 j) (ne_eqb i0 j other)) in
    let is : one_if (is_posted (Post c r0 i0 cqe ∷ past) r0 i0) ≡ 1 = ap one_if here in
    let was : one_if (is_posted past r0 i0) ≡ 0 = none_before (is_posted past r0 i0) refl once in
    omega (arith, change, is, was)) in
    let rest = posts-within m n past (λ r i. fewer (r0 == r && i0 == i) (posts_of past r i) (one r i)) (λ r i posted. inside r i (still (r0 == r && i0 == i) (is_posted past r i) posted)) in
    omega (arith, rest, step)
  where
    more_here : (b : Bool) (n : ℕ) → b ≡ true → (if b then n + 1 else n) ≤ 1 → n + 1 ≤ 1
    more_here true n e few = few
    more_here false n e few = cc e

    fewer : (b : Bool) (n : ℕ) → (if b then n + 1 else n) ≤ 1 → n ≤ 1
    fewer true n few = omega (arith, few)
    fewer false n few = few

    still : (b p : Bool) → p ≡ true → (b || p) ≡ true
    still true p e = refl
    still false p e = e

    no_index : (a b p : Bool) → b ≡ false → ((a && b) || p) ≡ p
    no_index true true p e = cc e
    no_index true false p e = refl
    no_index false b p e = refl

    none_before : (b : Bool) → is_posted past r0 i0 ≡ b → posts_of past r0 i0 + 1 ≤ 1 → one_if b ≡ 0
    none_before false e few = refl
    none_before true e few = let some = posts_of-some past r0 i0 e in absurd (omega (arith, some, few))
posts-within m n (e ∷ past) one inside = posts-within m n past one inside

-- ---- what is unposted
-- parts of a sum are within it
two_parts : (f : ℕ → ℕ) (r x n : ℕ) → r < n → x < n → (r ≡ x → ⊥) → f r + f x ≤ sum_by f (upto n)
two_parts f r x zero l k d = absurd (omega (arith, l))
two_parts f r x (suc n) l k d =
    let split = sum_by_push f (upto n) n in
    elim (cases_eq r n) [
      | inl e ↦ let here : f r ≡ f n = ap f e in let rest = part_of f x n (omega (arith, k, d, e)) in omega (arith, split, here, rest)
      | inr other ↦ elim (cases_eq x n) [
        | inl e ↦ let here : f x ≡ f n = ap f e in let rest = part_of f r n (omega (arith, l, other)) in omega (arith, split, here, rest)
        | inr apart ↦ let rest = two_parts f r x n (omega (arith, l, other)) (omega (arith, k, apart)) d in omega (arith, split, rest)
      ]
    ]

-- what is outstanding is unposted
takes : (a b q p : Bool) → (a ≡ false → q ≡ false) → ((is_picked (fate_by a b) || q) && not p) ≡ true → (not (is_waiting (fate_by a b)) && not p) ≡ true
takes true b true p n e = e
takes true b false p n e = cc e
takes false true q p n e = e
takes false false true p n e = absurd (true≢false (n refl))
takes false false false p n e = cc e

outstanding_less : (past : Past) (r : ℕ) → outstanding_of past r ≤ unposted_of past r
outstanding_less past r =
    counts_less (λ (i : ℕ). takes_place past r i && not (is_posted past r i)) (λ (i : ℕ). not (is_waiting (fate_of past r i)) && not (is_posted past r i))
    (λ i. takes (is_aborted past r i) (nat_lt (unaborted_below past r i) (picked past r)) (is_abort_requested past r i) (is_posted past r i) (unrequested past r i)) (places past r)

module _ (rules : FrontRules) (late : Bool) (past : Past) (k : Content) (s : Holds rules late past k) where
  abbrev number : ℕ
  number = length (sq_regions_of rules)

  abbrev size : ℕ → ℕ
  size r = length (fetched past r)

  abbrev held : ℕ → ℕ
  held r = length (waiting past r) + unposted_of past r

  one_post : (r i : ℕ) → posts_of past r i ≤ 1
  one_post r i = let all = s.ready.once r i in let one = at_most (is_served past r i) in omega (arith, all, one)

  -- what is posted was fetched
  posted_inside : (r i : ℕ) → is_posted past r i ≡ true → (r < number) × (i < size r)
  posted_inside r i posted = elim (cases_lt i (size r)) [
    | inl below ↦ elim (cases_lt r number) [
      | inl there ↦ (there, below)
      | inr beyond ↦ absurd (omega (arith, below, ap length (fetched_none rules late past k s r beyond)))
    ]
    | inr beyond ↦ absurd (true≢false (sym posted ∙ (s.regions r).none_posted i (omega (arith, beyond, ap length (s.regions r).fetched_is))))
  ]

  -- of all regions
  all_held : all_posts past + sum_by held (upto number) ≤ all_fetches past
  all_held =
      let fetches = fetches-by past number (fetched_none rules late past k s) in
      let posts = posts-within size number past one_post posted_inside in
      let all = sum_add held (λ (r : ℕ). posted_places past r) size number (λ r lt. sym (unposted_by past r (posted_served past k (hand_of k) s.ready r))) in
      omega (arith, fetches, posts, all)

  -- what waits, and what is outstanding
  waits_and_out : all_posts past + sum_by (λ (r : ℕ). length (waiting past r)) (upto number) + k.outstanding ≤ all_fetches past
  waits_and_out =
      let two = sum_add (λ (r : ℕ). length (waiting past r)) (λ (r : ℕ). unposted_of past r) held number (λ r lt. refl) in
      let less = sum_less (λ (r : ℕ). unposted_of past r) (λ (r : ℕ). outstanding_of past r) number (λ r lt. outstanding_less past r) in
      omega (arith, all_held, two, less, s.counts.outstanding_is)

  window_size : (r : ℕ) → length (waiting past r) ≡ length (k.sq r).window
  window_size r = ap length (s.regions r).waiting_is ∙ length-map (k.sq r).window (λ (c : Candidate). c.index)

  pub out_held : all_posts past + k.outstanding ≤ all_fetches past
  out_held = omega (arith, waits_and_out)

  -- with the commands that wait of a queue
  pub window_held : (r : ℕ) → r < k.nsq → all_posts past + k.outstanding + length (k.sq r).window ≤ all_fetches past
  window_held r there =
      let part = part_of (λ (x : ℕ). length (waiting past x)) r number (omega (arith, there, s.tabled.sq_number)) in
      omega (arith, waits_and_out, part, window_size r)

  -- of two
  pub windows_held : (r x : ℕ) → r < k.nsq → x < k.nsq → (r ≡ x → ⊥) → all_posts past + k.outstanding + length (k.sq r).window + length (k.sq x).window ≤ all_fetches past
  windows_held r x there other apart =
      let parts = two_parts (λ (y : ℕ). length (waiting past y)) r x number (omega (arith, there, s.tabled.sq_number)) (omega (arith, other, s.tabled.sq_number)) apart in
      omega (arith, waits_and_out, parts, window_size r, window_size x)

  -- what is unposted of a queue, with what waits of another
  pub beside_held : (r x : ℕ) → r < k.nsq → x < k.nsq → (r ≡ x → ⊥) → all_posts past + (k.sq r).unposted + length (k.sq x).window ≤ all_fetches past
  beside_held r x there other apart =
      let parts = two_parts held r x number (omega (arith, there, s.tabled.sq_number)) (omega (arith, other, s.tabled.sq_number)) apart in
      omega (arith, all_held, parts, window_size x, s.counts.unposted r)

  -- with what waits of it
  pub unposted_held : (r : ℕ) → r < k.nsq → all_posts past + (k.sq r).unposted + length (k.sq r).window ≤ all_fetches past
  unposted_held r there =
      let part = part_of held r number (omega (arith, there, s.tabled.sq_number)) in
      omega (arith, all_held, part, window_size r, s.counts.unposted r)

-- a pool has a slot for each command that is outstanding
pub few_outstanding : (rules : FrontRules) (late : Bool) (notes : Notes) (c : Controller) (slots : List Slot) → StandsAt rules late notes c slots → c.outstanding ≤ length slots
few_outstanding rules late notes c slots s =
    omega (arith, s.numbers.outstanding_is, out_held rules late (logged notes) s.content s.holds, s.tags.free_count)
