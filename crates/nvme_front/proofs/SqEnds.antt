-- What a contract sees of the ends of the submission rings, by the regions that a front keeps.
use Rattle.std.proofs.Common.{◌≡◌, ℕ, ◌<◌, ◌==◌, List, [], map, length, set, get_or, sym, ap, ◌∙◌}
use Rattle.std.specs.Prelude.{if◌then◌else◌}
use Rattle.std.proofs.lemmas.Simd.{map-map}
use Rattle.nvme_entry.specs.declared.submission.Sqe.{Sqe}
use Rattle.nvme_lane.specs.View.{GetView}
use Rattle.nvme_log.specs.Rules.{sq_regions_of, slots_at}
use Rattle.nvme_front.specs.declared.region.SqRegion.{SqRegion}
use Rattle.nvme_front.specs.declared.state.FrontState.{FrontState}
use Rattle.nvme_front.specs.inside.State.{gets_of, rules_of, view_of}
use Rattle.nvme_front.specs.View.{got_in, known_in}
use Rattle.nvme_front.proofs.RegionLists.{slots_of_sq}
use Rattle.nvme_front.proofs.States.{look-set, look-read}

abbrev got_of : SqRegion → List Sqe
got_of d = d.end.got

abbrev known_of : SqRegion → List Sqe
known_of d = d.end.known

-- what is seen of each end, by the regions
gots : (sqs : List SqRegion) → map (λ (g : GetView Sqe). g.got) (gets_of sqs) ≡ map got_of sqs
gots sqs = map-map (λ (g : GetView Sqe). g.got) (λ (d : SqRegion). d.end) sqs

knowns : (sqs : List SqRegion) → map (λ (g : GetView Sqe). g.known) (gets_of sqs) ≡ map known_of sqs
knowns sqs = map-map (λ (g : GetView Sqe). g.known) (λ (d : SqRegion). d.end) sqs

-- ---- a region that was read
module _ (s : FrontState) (r : ℕ) (d : SqRegion) (there : r < length s.sqs.items) (read : d ≡ get_or s.sqs.items r d) where
  pub got_in-read : got_in (view_of s) r ≡ d.end.got
  got_in-read = ap (λ (xs : List (List Sqe)). get_or xs r []) (gots s.sqs.items) ∙ look-read got_of [] s.sqs.items r d there d read

  pub known_in-read : known_in (view_of s) r ≡ d.end.known
  known_in-read = ap (λ (xs : List (List Sqe)). get_or xs r []) (knowns s.sqs.items) ∙ look-read known_of [] s.sqs.items r d there d read

-- ---- a region that was replaced
module _ (a b : FrontState) (r : ℕ) (g : SqRegion) (there : r < length a.sqs.items) (sqs : b.sqs.items ≡ set a.sqs.items r g) where
  pub got_in-set : (x : ℕ) → got_in (view_of b) x ≡ (if x == r then g.end.got else got_in (view_of a) x)
  got_in-set x =
      ap (λ (xs : List (List Sqe)). get_or xs x []) (gots b.sqs.items)
      ∙ ap (λ (xs : List SqRegion). get_or (map got_of xs) x []) sqs
      ∙ look-set got_of [] a.sqs.items r g there x
      ∙ ap (λ (xs : List (List Sqe)). if x == r then g.end.got else get_or xs x []) (sym (gots a.sqs.items))

  pub known_in-set : (x : ℕ) → known_in (view_of b) x ≡ (if x == r then g.end.known else known_in (view_of a) x)
  known_in-set x =
      ap (λ (xs : List (List Sqe)). get_or xs x []) (knowns b.sqs.items)
      ∙ ap (λ (xs : List SqRegion). get_or (map known_of xs) x []) sqs
      ∙ look-set known_of [] a.sqs.items r g there x
      ∙ ap (λ (xs : List (List Sqe)). if x == r then g.end.known else get_or xs x []) (sym (knowns a.sqs.items))

-- ---- the slots of the rules
pub own_slots : (s : FrontState) (r : ℕ) (d : SqRegion) → r < length s.sqs.items → d ≡ get_or s.sqs.items r d → slots_at (sq_regions_of (rules_of s)) r ≡ d.end.slots
own_slots s r d there read = slots_of_sq s r ∙ look-read (λ (x : SqRegion). x.end.slots) 0 s.sqs.items r d there d read
