-- The places of a table, as what they say is written and looked through.
use Rattle.std.proofs.Common.{◌≡◌, ◌∙◌, ℕ, suc, ◌||◌, Bool, true, false, nat_lt, if◌then◌else◌, List, [], ◌∷◌, Option, Some, None, length, get_or, slice_get, replicate, set, refl, sym, ap, subst, ltb-true, ltb-false}
use Rattle.std.specs.List.{list_any}
use Rattle.std.proofs.lemmas.List.{map-set, length-map}
use Rattle.std.proofs.lemmas.Option.{slice_get_read, slice_get_past}
use lib.LanesLaws.{map-replicate}
use Rattle.nvme_admin.specs.Layout.{up, flags_in, sq_of_place, sqs_of_places, cq_of_place, cqs_of_places, view_of}
use Rattle.nvme_admin.specs.declared.layout.Flag.{Flag}
use Rattle.nvme_admin.specs.declared.layout.SqPlace.{SqPlace}
use Rattle.nvme_admin.specs.declared.layout.CqPlace.{CqPlace}
use Rattle.nvme_admin.specs.declared.bounds.TheConstants.{MAX_REGIONS}
use Rattle.nvme_admin.specs.declared.fields.TableFields.{TableFields}
use Rattle.nvme_admin.specs.declared.region.Region.{Region}
use Rattle.nvme_admin.specs.Standing.{TableView, IsSized, sq_renewed, sq_renewed_as, cq_renewed, cq_renewed_as}
use Rattle.nvme_admin.proofs.Slots.{other}
use Rattle.nvme_admin.specs.declared.verdict.SqEntry.{SqEntry}

-- a table has a place for each region and each identifier
pub sized-in : (t : TableFields) → length t.sq_used ≡ MAX_REGIONS → length t.cq_used ≡ MAX_REGIONS → length t.sqs ≡ MAX_REGIONS → length t.cqs ≡ MAX_REGIONS
    → IsSized (view_of t)
sized-in t sq_used cq_used sqs cqs = record {
  sq_used = length-map t.sq_used up ∙ sq_used;
  cq_used = length-map t.cq_used up ∙ cq_used;
  sqs = length-map t.sqs sq_of_place ∙ sqs;
  cqs = length-map t.cqs cq_of_place ∙ cqs;
}

-- a place is written
pub sqs-set : (ps : List SqPlace) (k : ℕ) (p : SqPlace) (o : Option SqEntry) → sq_of_place p ≡ o → sqs_of_places (set ps k p) ≡ set (sqs_of_places ps) k o
sqs-set ps k p o is = map-set sq_of_place ps k p ∙ ap (set (sqs_of_places ps) k) is

pub cqs-set : (ps : List CqPlace) (k : ℕ) (p : CqPlace) (o : Option ℕ) → cq_of_place p ≡ o → cqs_of_places (set ps k p) ≡ set (cqs_of_places ps) k o
cqs-set ps k p o is = map-set cq_of_place ps k p ∙ ap (set (cqs_of_places ps) k) is

-- a flag is put up
pub flags-set : (fs : List Flag) (k : ℕ) (f : Flag) (b : Bool) → up f ≡ b → flags_in (set fs k f) ≡ set (flags_in fs) k b
flags-set fs k f b is = map-set up fs k f ∙ ap (set (flags_in fs) k) is

-- places of no queue, and flags of which the first alone is up
pub sqs-none : (n : ℕ) (p : SqPlace) → sq_of_place p ≡ None → sqs_of_places (replicate n p) ≡ replicate n None
sqs-none n p is = map-replicate sq_of_place n p ∙ ap (replicate n) is

pub cqs-none : (n : ℕ) (p : CqPlace) → cq_of_place p ≡ None → cqs_of_places (replicate n p) ≡ replicate n None
cqs-none n p is = map-replicate cq_of_place n p ∙ ap (replicate n) is

pub flags-first : (n : ℕ) (f g : Flag) → up f ≡ false → up g ≡ true → flags_in (set (replicate (suc n) f) 0 g) ≡ true ∷ replicate n false
flags-first n f g down is = λ i. is i ∷ (map-replicate up n f ∙ ap (replicate n) down) i

-- some place passes
pub any-place : (test : Option SqEntry → Bool) (ps : List SqPlace) → list_any (λ p. test (sq_of_place p)) ps ≡ list_any test (sqs_of_places ps)
any-place test [] = refl
any-place test (p ∷ ps) = ap (λ b. test (sq_of_place p) || b) (any-place test ps)

-- a region that a look-up finds, or doesn't
pub region-found : (xs rs : List Region) (k : ℕ) (r : Region) → xs ≡ rs → true ≡ nat_lt k (length xs) → r ≡ get_or xs k r → slice_get rs k ≡ Some r
region-found xs rs k r same there at = subst (λ (ys : List Region). slice_get ys k ≡ Some r) same (slice_get_read xs (length xs) k r refl (ltb-true k (length xs) (sym there)) at)

pub region-missing : (xs rs : List Region) (k : ℕ) → xs ≡ rs → false ≡ nat_lt k (length xs) → slice_get rs k ≡ None
region-missing xs rs k same past = subst (λ (ys : List Region). slice_get ys k ≡ None) same (slice_get_past xs k (ltb-false k (length xs) (sym past)))

-- a region is renewed
module _ (v : TableView) (k slots : ℕ) (r : Region) (io : k ≡ 0 → ⊥) where
  pub sq-renewed : slice_get v.sq_regions k ≡ Some r
      → record v { sq_regions = set v.sq_regions k (record { address = r.address; slots = slots }); sq_used = set v.sq_used k false } ≡ sq_renewed v k slots
  sq-renewed here =
      sym (ap (sq_renewed_as v k slots) here
      ∙ (λ i. if (other k 0 io) i then v else record v { sq_regions = set v.sq_regions k (record { address = r.address; slots = slots }); sq_used = set v.sq_used k false }))

  pub cq-renewed : slice_get v.cq_regions k ≡ Some r
      → record v { cq_regions = set v.cq_regions k (record { address = r.address; slots = slots }); cq_used = set v.cq_used k false } ≡ cq_renewed v k slots
  cq-renewed here =
      sym (ap (cq_renewed_as v k slots) here
      ∙ (λ i. if (other k 0 io) i then v else record v { cq_regions = set v.cq_regions k (record { address = r.address; slots = slots }); cq_used = set v.cq_used k false }))
