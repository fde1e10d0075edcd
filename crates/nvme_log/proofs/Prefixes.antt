-- What a longer log says of its beginning.
use Rattle.std.proofs.Common.{◌≡◌, ℕ, ◌==◌, Bool, true, false, List, [], ◌∷◌, ◌++◌, refl, sym, ap, ◌∙◌, append_assoc, if◌then◌else◌}
use Rattle.std.proofs.lemmas.List.{append-nil}
use mathlib.Core.List.{IsPrefix}
use Rattle.nvme_arbiter.proofs.PickLaws.{prefixes}
use Rattle.nvme_log.specs.declared.event.Event.{Event}
use Rattle.nvme_log.specs.declared.event.Event.TheVariants.{Fetch, Pick, SetArbitration, Post}
use Rattle.nvme_log.specs.Rules.{Past, Each}
use Rattle.nvme_log.specs.Places.{fetched}
use Rattle.nvme_log.specs.Histories.{arbitration_of}
use Rattle.nvme_log.specs.Answers.{by_outcome}
use Rattle.nvme_log.specs.Completions.{posted_to}
use Rattle.nvme_log.specs.Laws.{PrefixesAreAccounted}
use Rattle.nvme_log.specs.AnswerLaws.{PrefixesAreAccountedBy}

pub IsPrefix-refl : {T : Type 0} (xs : List T) → IsPrefix xs xs
IsPrefix-refl xs = ([], append-nil xs)

pub IsPrefix-trans : {T : Type 0} (a b c : List T) → IsPrefix a b → IsPrefix b c → IsPrefix a c
IsPrefix-trans a b c p q = (p.0 ++ q.0, sym (append_assoc a p.0 q.0) ∙ ap (λ z. z ++ q.0) p.1 ∙ q.1)

pub IsPrefix-push : {T : Type 0} (b : Bool) (xs ys : List T) (y : T) → IsPrefix xs ys → IsPrefix xs (if b then ys ++ y ∷ [] else ys)
IsPrefix-push true xs ys y h = (h.0 ++ y ∷ [], sym (append_assoc xs h.0 (y ∷ [])) ∙ ap (λ z. z ++ y ∷ []) h.1)
IsPrefix-push false xs ys y h = h

pub Each-after : (P : Past → Event → Type 0) (later past : Past) → Each P (later ++ past) → Each P past
Each-after P [] past h = h
Each-after P (e ∷ later) past h = Each-after P later past h.1

pub fetched-after : (later past : Past) (r : ℕ) → IsPrefix (fetched past r) (fetched (later ++ past) r)
fetched-after [] past r = IsPrefix-refl (fetched past r)
fetched-after (Fetch region index entry ∷ later) past r = IsPrefix-push (region == r) (fetched past r) (fetched (later ++ past) r) entry (fetched-after later past r)
fetched-after (e ∷ later) past r = fetched-after later past r

pub posted_to-after : (later past : Past) (c : ℕ) → IsPrefix (posted_to past c) (posted_to (later ++ past) c)
posted_to-after [] past c = IsPrefix-refl (posted_to past c)
posted_to-after (Post cq_region region index cqe ∷ later) past c = IsPrefix-push (cq_region == c) (posted_to past c) (posted_to (later ++ past) c) cqe (posted_to-after later past c)
posted_to-after (e ∷ later) past c = posted_to-after later past c

pub arbitration_of-append : (later past : Past) → arbitration_of (later ++ past) ≡ arbitration_of later ++ arbitration_of past
arbitration_of-append [] past = refl
arbitration_of-append (Pick seen pick ∷ later) past = rw (arbitration_of-append later past) refl
arbitration_of-append (SetArbitration settings ∷ later) past = rw (arbitration_of-append later past) refl
arbitration_of-append (e ∷ later) past = arbitration_of-append later past

pub accounted_by : PrefixesAreAccountedBy
accounted_by rules executor sent later past collected h = record {
  fetched_in_order = λ r. IsPrefix-trans (fetched past r) (fetched (later ++ past) r) (sent r) (fetched-after later past r) (h.fetched_in_order r);
  indexes_count = Each-after _ later past h.indexes_count;
  served_while_open = Each-after _ later past h.served_while_open;
  observed = Each-after _ later past h.observed;
  effects_at_once = Each-after _ later past h.effects_at_once;
  deletes = Each-after _ later past h.deletes;
  posts_own = Each-after _ later past h.posts_own;
  leaves_places = Each-after _ later past h.leaves_places;
  lawful = prefixes rules.mechanism rules.start.settings (arbitration_of later) (arbitration_of past) (rw (arbitration_of-append later past) at h.lawful);
}

pub accounted : PrefixesAreAccounted
accounted rules = accounted_by rules (by_outcome rules)
