-- The engine begins with the regions of the admin queue, and gets the others one by one.
use Rattle.std.proofs.Common.{◌≡◌, ◌≢◌, ℕ, ◌+◌, ◌<◌, ◌≤◌, ◌||◌, false, if◌then◌else◌, List, [], ◌∷◌, ◌++◌, length, map, get_or, take, drop, Some, None, refl, sym, ap, ◌∙◌, subst, arith, ne_eqb, append_assoc}
use Rattle.std.proofs.lemmas.Bool.{le-ltb}
use Rattle.std.proofs.lemmas.List.{length-map, map-append, length-take-le, take-append-drop, take_more, take_all}
use Rattle.nvme_entry.specs.declared.submission.Sqe.{Sqe}
use Rattle.nvme_entry.specs.declared.completion.Cqe.{Cqe}
use Rattle.nvme_lane.specs.View.{GetView, PutView}
use Rattle.nvme_admin.specs.History.{Submission, Completion, RegionAdded, TableHistory}
use Rattle.nvme_admin.specs.declared.bounds.TheConstants.{MAX_REGIONS, MIN_SLOTS, MAX_SLOTS}
use Rattle.nvme_admin.specs.declared.region.Region.{Region}
use Rattle.nvme_admin.specs.declared.region.AdminError.TheVariants.{Used, Size}
use Rattle.nvme_log.specs.Rules.{sq_regions_of, cq_regions_of}
use Rattle.nvme_ctrl_log.specs.Making.{with_region, first_rules, admin_fault, adding_fault}
use Rattle.nvme_slots.specs.Pool.{IsNew, AreApart}
use Rattle.nvme_slots.proofs.Pools.{IsNew-head, IsNew-left, IsNew-right, IsNew-append, IsNew-others}
use Rattle.nvme_engine.specs.Standing.{StandsAt}
use Rattle.nvme_engine.specs.declared.engine.Engine.{Engine}
use Rattle.nvme_front.specs.declared.region.SqRegion.{SqRegion}
use Rattle.nvme_front.specs.declared.state.FrontState.{FrontState}
use Rattle.nvme_front.specs.Regions.{sq_steps, cq_steps}
use Rattle.nvme_front.specs.inside.Goes.{HasAdmin}
use Rattle.nvme_front.specs.inside.Pushing.{rules_at}
use Rattle.nvme_front.specs.inside.Room.{IsRoomy}
use Rattle.nvme_front.specs.inside.State.{gets_of, rules_of}
use Rattle.nvme_front.proofs.RegionSteps.{region_of_get, region_of_put}
use Rattle.nvme_front.proofs.RegionLists.{sqs_by, cqs_by}
use Rattle.nvme_front.proofs.Addresses.{no_fault}
use Rattle.nvme_front.proofs.AddedRegions.{sq_first, cq_first}

-- ---- the first regions of a list
-- one more of them
take_read : {X : Type 0} (xs : List X) (n : ℕ) (x : X) → n < length xs → x ≡ get_or xs n x → take (n + 1) xs ≡ take n xs ++ x ∷ []
take_read xs n x below read = take_more xs n x below ∙ ap (λ (y : _). take n xs ++ y ∷ []) (sym read)

-- the list is those before, one, and those behind
parts_at : {X : Type 0} (xs : List X) (n : ℕ) (x : X) → n < length xs → x ≡ get_or xs n x → xs ≡ take n xs ++ x ∷ drop (n + 1) xs
parts_at xs n x below read =
    sym (take-append-drop (n + 1) xs) ∙ ap (λ (ys : _). ys ++ drop (n + 1) xs) (take_read xs n x below read)
    ∙ append_assoc (take n xs) (x ∷ []) (drop (n + 1) xs)

-- a number that stands at a place of the first list is new to those before it and the first of the second
new_first : (ns : List ℕ) (a : ℕ) (bs cs ds : List ℕ) → AreApart ((ns ++ a ∷ bs) ++ (cs ++ ds)) → IsNew a (ns ++ cs)
new_first ns a bs cs ds apart =
    let others : IsNew a (ns ++ (bs ++ (cs ++ ds))) = IsNew-others ns a (bs ++ (cs ++ ds)) (subst AreApart (append_assoc ns (a ∷ bs) (cs ++ ds)) apart) in
    IsNew-append a ns cs (IsNew-left a ns (bs ++ (cs ++ ds)) others)
    (IsNew-left a cs ds (IsNew-right a bs (cs ++ ds) (IsNew-right a ns (bs ++ (cs ++ ds)) others)))

-- and the other way round
new_second : (ns bs cs : List ℕ) (a : ℕ) (ds : List ℕ) → AreApart ((ns ++ bs) ++ (cs ++ a ∷ ds)) → IsNew a (ns ++ cs)
new_second ns bs cs a ds apart =
    let others : IsNew a (((ns ++ bs) ++ cs) ++ ds) = IsNew-others ((ns ++ bs) ++ cs) a ds (subst AreApart (sym (append_assoc (ns ++ bs) cs (a ∷ ds))) apart) in
    let before : IsNew a ((ns ++ bs) ++ cs) = IsNew-left a ((ns ++ bs) ++ cs) ds others in
    IsNew-append a ns cs (IsNew-left a ns bs (IsNew-left a (ns ++ bs) cs before)) (IsNew-right a (ns ++ bs) cs before)

-- what is seen of a list in two parts
map_parts : {X : Type 0} (f : X → ℕ) (xs ns bs : List X) → xs ≡ ns ++ bs → map f xs ≡ map f ns ++ map f bs
map_parts f xs ns bs are = ap (map f) are ∙ map-append f ns bs

module _ (s : FrontState) (roomy : IsRoomy s) where
  abbrev sq_addresses : List SqRegion → List ℕ
  sq_addresses sqs = map (λ (sq : SqRegion). sq.end.address) sqs

  abbrev cq_addresses : List (PutView Cqe) → List ℕ
  cq_addresses puts = map (λ (p : PutView Cqe). p.address) puts

  -- as they are seen of the ends
  seen_addresses : (sqs : List SqRegion) → map (λ (g : GetView Sqe). g.address) (gets_of sqs) ≡ sq_addresses sqs
  seen_addresses [] = refl
  seen_addresses (x ∷ sqs) = ap (λ (ns : List ℕ). x.end.address ∷ ns) (seen_addresses sqs)

  -- ---- a submission region
  module _ (m n : ℕ) (x : SqRegion) (below : m < length s.sqs.items) (read : x ≡ get_or s.sqs.items m x) where
    sq_new : IsNew x.end.address (map (λ (g : GetView Sqe). g.address) (gets_of (take m s.sqs.items)) ++ cq_addresses (take n s.cqs.items))
    sq_new =
        let sqs = map_parts (λ (sq : SqRegion). sq.end.address) s.sqs.items (take m s.sqs.items) (x ∷ drop (m + 1) s.sqs.items) (parts_at s.sqs.items m x below read) in
        let cqs = map_parts (λ (p : PutView Cqe). p.address) s.cqs.items (take n s.cqs.items) (drop n s.cqs.items) (sym (take-append-drop n s.cqs.items)) in
        subst (λ (ns : List ℕ). IsNew x.end.address (ns ++ cq_addresses (take n s.cqs.items))) (sym (seen_addresses (take m s.sqs.items)))
        (new_first (sq_addresses (take m s.sqs.items)) x.end.address (sq_addresses (drop (m + 1) s.sqs.items)) (cq_addresses (take n s.cqs.items)) (cq_addresses (drop n s.cqs.items))
        (subst AreApart (λ i. sqs i ++ cqs i) roomy.apart))

    sq_room : length (sq_regions_of (rules_at s m n)) ≢ MAX_REGIONS
    sq_room full =
        let are = sqs_by (rules_of s).mechanism (rules_of s).start (rules_of s).sizes (gets_of (take m s.sqs.items)) (take n s.cqs.items) in
        let count : length (sq_regions_of (rules_at s m n)) ≡ m =
        ap (λ (rs : List Region). length rs) are ∙ length-map (gets_of (take m s.sqs.items)) region_of_get
        ∙ length-map (take m s.sqs.items) (λ (y : SqRegion). y.end) ∙ length-take-le m s.sqs.items (omega (arith, below)) in
        let few = roomy.few_sqs in
        omega (arith, full, count, few, below)

    -- it is not refused,
    pub sq_given-fault : (a slots : ℕ) → a ≡ x.end.address → slots ≡ x.end.slots → MIN_SLOTS ≤ slots → slots ≤ MAX_SLOTS → adding_fault Submission a slots (rules_at s m n) ≡ None
    sq_given-fault a slots is_a is_slots least most =
        no_fault (rules_of s).mechanism (rules_of s).start (rules_of s).sizes (gets_of (take m s.sqs.items)) (take n s.cqs.items) a
        (subst (λ (b : ℕ). IsNew b (map (λ (g : GetView Sqe). g.address) (gets_of (take m s.sqs.items)) ++ cq_addresses (take n s.cqs.items))) (sym is_a) sq_new)
        Submission slots sq_room least most

    -- and the engine stands at the rules with it
    pub sq_given : (a slots : ℕ) → a ≡ x.end.address → slots ≡ x.end.slots → (e : Engine) → StandsAt (with_region Submission a slots (rules_at s m n)) false [] e → StandsAt (rules_at s (m + 1) n) false [] e
    sq_given a slots is_a is_slots e stands =
        let gets : gets_of (take (m + 1) s.sqs.items) ≡ gets_of (take m s.sqs.items) ++ x.end ∷ [] =
        ap gets_of (take_read s.sqs.items m x below read) ∙ map-append (λ (y : SqRegion). y.end) (take m s.sqs.items) (x ∷ []) in
        let told : StandsAt (with_region Submission x.end.address x.end.slots (rules_at s m n)) false [] e =
        subst (λ (k : ℕ). StandsAt (with_region Submission x.end.address k (rules_at s m n)) false [] e) is_slots
        (subst (λ (b : ℕ). StandsAt (with_region Submission b slots (rules_at s m n)) false [] e) is_a stands) in
        subst (λ (gs : List (GetView Sqe)). StandsAt (record (rules_of s) { regions = cq_steps (take n s.cqs.items) ++ sq_steps gs }) false [] e) (sym gets)
        (sq_first (rules_of s) (gets_of (take m s.sqs.items)) (take n s.cqs.items) x.end false e told)

  -- ---- a completion region
  module _ (m n : ℕ) (x : PutView Cqe) (below : n < length s.cqs.items) (read : x ≡ get_or s.cqs.items n x) where
    cq_new : IsNew x.address (map (λ (g : GetView Sqe). g.address) (gets_of (take m s.sqs.items)) ++ cq_addresses (take n s.cqs.items))
    cq_new =
        let sqs = map_parts (λ (sq : SqRegion). sq.end.address) s.sqs.items (take m s.sqs.items) (drop m s.sqs.items) (sym (take-append-drop m s.sqs.items)) in
        let cqs = map_parts (λ (p : PutView Cqe). p.address) s.cqs.items (take n s.cqs.items) (x ∷ drop (n + 1) s.cqs.items) (parts_at s.cqs.items n x below read) in
        subst (λ (ns : List ℕ). IsNew x.address (ns ++ cq_addresses (take n s.cqs.items))) (sym (seen_addresses (take m s.sqs.items)))
        (new_second (sq_addresses (take m s.sqs.items)) (sq_addresses (drop m s.sqs.items)) (cq_addresses (take n s.cqs.items)) x.address (cq_addresses (drop (n + 1) s.cqs.items))
        (subst AreApart (λ i. sqs i ++ cqs i) roomy.apart))

    cq_room : length (cq_regions_of (rules_at s m n)) ≢ MAX_REGIONS
    cq_room full =
        let are = cqs_by (rules_of s).mechanism (rules_of s).start (rules_of s).sizes (gets_of (take m s.sqs.items)) (take n s.cqs.items) in
        let count : length (cq_regions_of (rules_at s m n)) ≡ n =
        ap (λ (rs : List Region). length rs) are ∙ length-map (take n s.cqs.items) region_of_put ∙ length-take-le n s.cqs.items (omega (arith, below)) in
        let few = roomy.few_cqs in
        omega (arith, full, count, few, below)

    pub cq_given-fault : (a slots : ℕ) → a ≡ x.address → slots ≡ x.slots → MIN_SLOTS ≤ slots → slots ≤ MAX_SLOTS → adding_fault Completion a slots (rules_at s m n) ≡ None
    cq_given-fault a slots is_a is_slots least most =
        no_fault (rules_of s).mechanism (rules_of s).start (rules_of s).sizes (gets_of (take m s.sqs.items)) (take n s.cqs.items) a
        (subst (λ (b : ℕ). IsNew b (map (λ (g : GetView Sqe). g.address) (gets_of (take m s.sqs.items)) ++ cq_addresses (take n s.cqs.items))) (sym is_a) cq_new)
        Completion slots cq_room least most

    pub cq_given : (a slots : ℕ) → a ≡ x.address → slots ≡ x.slots → (e : Engine) → StandsAt (with_region Completion a slots (rules_at s m n)) false [] e → StandsAt (rules_at s m (n + 1)) false [] e
    cq_given a slots is_a is_slots e stands =
        let told : StandsAt (with_region Completion x.address x.slots (rules_at s m n)) false [] e =
        subst (λ (k : ℕ). StandsAt (with_region Completion x.address k (rules_at s m n)) false [] e) is_slots
        (subst (λ (b : ℕ). StandsAt (with_region Completion b slots (rules_at s m n)) false [] e) is_a stands) in
        subst (λ (ps : List (PutView Cqe)). StandsAt (record (rules_of s) { regions = cq_steps ps ++ sq_steps (gets_of (take m s.sqs.items)) }) false [] e) (sym (take_read s.cqs.items n x below read))
        (cq_first (rules_of s) (gets_of (take m s.sqs.items)) (take n s.cqs.items) x false e told)

-- ---- all of the regions
pub rules_at-all : (s : FrontState) → rules_at s (length s.sqs.items) (length s.cqs.items) ≡ rules_of s
rules_at-all s =
    λ i. record (rules_of s) { regions = cq_steps (take_all (length s.cqs.items) s.cqs.items (omega arith) i) ++ sq_steps (gets_of (take_all (length s.sqs.items) s.sqs.items (omega arith) i)) }

-- ---- the first of each kind
-- the first regions
first_steps : (sqs : List SqRegion) (puts : List (PutView Cqe)) (x : SqRegion) (p : PutView Cqe) → 0 < length sqs → 0 < length puts → x ≡ get_or sqs 0 x → p ≡ get_or puts 0 p
    → RegionAdded Completion p.address p.slots ∷ RegionAdded Submission x.end.address x.end.slots ∷ [] ≡ cq_steps (take 1 puts) ++ sq_steps (gets_of (take 1 sqs))
first_steps [] puts x p some others read_x read_p = absurd (omega (arith, some))
first_steps (y ∷ sqs) [] x p some others read_x read_p = absurd (omega (arith, others))
first_steps (y ∷ sqs) (q ∷ puts) x p some others read_x read_p = λ i. RegionAdded Completion (read_p i).address (read_p i).slots ∷ RegionAdded Submission (read_x i).end.address (read_x i).end.slots ∷ []

-- their addresses are apart
first_apart : (sqs : List SqRegion) (puts : List (PutView Cqe)) (x : SqRegion) (p : PutView Cqe) → 0 < length sqs → 0 < length puts → x ≡ get_or sqs 0 x → p ≡ get_or puts 0 p
    → AreApart (map (λ (sq : SqRegion). sq.end.address) sqs ++ map (λ (p : PutView Cqe). p.address) puts) → x.end.address ≢ p.address
first_apart [] puts x p some others read_x read_p apart same = absurd (omega (arith, some))
first_apart (y ∷ sqs) [] x p some others read_x read_p apart same = absurd (omega (arith, others))
first_apart (y ∷ sqs) (q ∷ puts) x p some others read_x read_p apart same =
    IsNew-head y.end.address q.address (map (λ (p : PutView Cqe). p.address) puts)
    (IsNew-right y.end.address (map (λ (sq : SqRegion). sq.end.address) sqs) (q.address ∷ map (λ (p : PutView Cqe). p.address) puts) apart.0)
    (sym (ap (λ (z : PutView Cqe). z.address) read_p) ∙ sym same ∙ ap (λ (z : SqRegion). z.end.address) read_x)

module _ (s : FrontState) (roomy : IsRoomy s) (admin : HasAdmin s) (x : SqRegion) (p : PutView Cqe) (read_x : x ≡ get_or s.sqs.items 0 x) (read_p : p ≡ get_or s.cqs.items 0 p) (sq cq : Region)
    (sq_is : sq ≡ record { address = x.end.address; slots = x.end.slots }) (cq_is : cq ≡ record { address = p.address; slots = p.slots }) where
  -- they may be the admin regions
  pub first-fault : MIN_SLOTS ≤ x.end.slots → x.end.slots ≤ MAX_SLOTS → MIN_SLOTS ≤ p.slots → p.slots ≤ MAX_SLOTS → admin_fault sq cq ≡ None
  first-fault sq_least sq_most cq_least cq_most =
      (λ i. admin_fault (sq_is i) (cq_is i))
      ∙ (λ j. if (le-ltb x.end.slots MIN_SLOTS sq_least) j || (le-ltb MAX_SLOTS x.end.slots sq_most) j then Some Size
      else (if (ne_eqb x.end.address p.address (first_apart s.sqs.items s.cqs.items x p admin.0 admin.1 read_x read_p roomy.apart)) j then Some Used
      else (if (le-ltb p.slots MIN_SLOTS cq_least) j || (le-ltb MAX_SLOTS p.slots cq_most) j then Some Size
      else None)))

  -- and an engine that begins with them stands at the rules with them
  pub first-stands : (e : Engine) → StandsAt (first_rules s.config.mechanism s.config.settings s.config.limits sq cq s.config.spaces) false [] e → StandsAt (rules_at s 1 1) false [] e
  first-stands e stands =
      let steps = (λ i. RegionAdded Completion (cq_is i).address (cq_is i).slots ∷ RegionAdded Submission (sq_is i).address (sq_is i).slots ∷ [])
      ∙ first_steps s.sqs.items s.cqs.items x p admin.0 admin.1 read_x read_p in
      subst (λ (h : TableHistory). StandsAt (record (rules_of s) { regions = h }) false [] e) steps stands
