-- The front after its regions are added one by one.
use Rattle.std.proofs.Common.{◌≡◌, ◌≢◌, ℕ, ◌==◌, ◌||◌, Bool, false, List, [], ◌∷◌, ◌++◌, length, map, get_or, refl, sym, ap, ◌∙◌, subst, arith, ne_eqb, append_assoc}
use Rattle.std.specs.List.{AllPairs, list_any}
use Rattle.std.proofs.lemmas.List.{map-append, length-append, get_or_append_left}
use Rattle.std.proofs.lemmas.Simd.{map-map}
use Rattle.std.proofs.lemmas.List.Folds.{list_any_none, list_any-append}
use Rattle.nvme_entry.specs.declared.submission.Sqe.{Sqe}
use Rattle.nvme_entry.specs.declared.completion.Cqe.{Cqe}
use Rattle.nvme_lane.specs.View.{GetView, PutView, RingName}
use Rattle.nvme_lane.specs.declared.feeder.Feeder.{Feeder}
use Rattle.nvme_lane.specs.declared.drainer.Drainer.{Drainer}
use Rattle.nvme_workload.specs.declared.plan.CqPlan.{CqPlan}
use Rattle.nvme_front.specs.Ends.{get_place, put_place}
use Rattle.nvme_front.specs.Hosts.{drainer_place}
use Rattle.nvme_front.specs.View.{FrontView, is_address}
use Rattle.nvme_front.proofs.Addresses.{any_in_map}
use Rattle.nvme_threads.specs.Hosts.{feeder_seen}
use Rattle.nvme_threads.specs.declared.loaded_rings.SqEnds.{SqEnds}
use Rattle.nvme_runs.specs.inside.Prepared.{StaysFresh, AddsSq, AddsCq, AddsSqs, AddsCqs, sent_by, cq_site, put_site}

-- ---- maps
-- an element more on both sides
pub maps_more : {A B C : Type 0} (f : A → C) (g : B → C) (xs : List A) (ys : List B) (x : A) (y : B) → map f xs ≡ map g ys → f x ≡ g y
    → map f (xs ++ x ∷ []) ≡ map g (ys ++ y ∷ [])
maps_more f g xs ys x y before here =
    map-append f xs (x ∷ []) ∙ (λ i. before i ++ here i ∷ []) ∙ sym (map-append g ys (y ∷ []))

-- ---- addresses
-- what stands behind a list is at its length
at_end : {A : Type 0} (before : List A) (a : A) (after : List A) (d : A) → get_or (before ++ a ∷ after) (length before) d ≡ a
at_end [] a after d = refl
at_end (x ∷ before) a after d = at_end before a after d

-- of numbers that are apart none is one that comes later
none_before : (before : List ℕ) (a : ℕ) (after : List ℕ) → AllPairs (λ (x y : ℕ). x ≢ y) (before ++ a ∷ after) → list_any (λ (x : ℕ). x == a) before ≡ false
none_before before a after apart =
    list_any_none (λ (x : ℕ). x == a) before (λ i d l.
    ne_eqb (get_or before i d) a (λ e.
    apart i (length before) d l (omega (arith, length-append before (a ∷ after)))
    (get_or_append_left before (a ∷ after) d i l ∙ e ∙ sym (at_end before a after d))))

-- numbers that are apart from one another and from others are apart from one another
pub first_apart : (xs ys : List ℕ) → AllPairs (λ (x y : ℕ). x ≢ y) (xs ++ ys) → AllPairs (λ (x y : ℕ). x ≢ y) xs
first_apart xs ys apart =
    λ i j d l m e.
    apart i j d l (omega (arith, length-append xs ys)) (get_or_append_left xs ys d i (omega (arith)) ∙ e ∙ sym (get_or_append_left xs ys d j m))

-- the next address is that of no region of a front whose regions have the addresses before it
pub is_new : (v : FrontView) (before after : List ℕ) (a : ℕ)
    → map (λ (g : GetView Sqe). g.address) v.gets ++ map (λ (p : PutView Cqe). p.address) v.puts ≡ before
    → AllPairs (λ (x y : ℕ). x ≢ y) (before ++ a ∷ after) → is_address v a ≡ false
is_new v before after a are apart =
    let is_a : ℕ → Bool = λ x. x == a in
    sym (λ i. any_in_map is_a (λ (g : GetView Sqe). g.address) v.gets i || any_in_map is_a (λ (p : PutView Cqe). p.address) v.puts i)
    ∙ sym (list_any-append is_a (map (λ (g : GetView Sqe). g.address) v.gets) (map (λ (p : PutView Cqe). p.address) v.puts))
    ∙ ap (λ zs. list_any is_a zs) are
    ∙ none_before before a after apart

-- the addresses up to one, and it, and the others' are those of all
pub apart_at : {A : Type 0} (f : A → ℕ) (first : List ℕ) (yielded rest all : List A) (x : A) → yielded ++ x ∷ rest ≡ all
    → AllPairs (λ (a b : ℕ). a ≢ b) (first ++ map f all) → AllPairs (λ (a b : ℕ). a ≢ b) ((first ++ map f yielded) ++ f x ∷ map f rest)
apart_at f first yielded rest all x is_all apart =
    subst (λ zs. AllPairs (λ (a b : ℕ). a ≢ b) zs)
    (ap (λ zs. first ++ map f zs) (sym is_all) ∙ ap (λ zs. first ++ zs) (map-append f yielded (x ∷ rest)) ∙ sym (append_assoc first (map f yielded) (f x ∷ map f rest))) apart

-- the addresses of regions are those of their rings
pub ring_addresses : (v : FrontView) (rings : List SqEnds) → map get_place v.gets ≡ map (λ (e : SqEnds). get_place e.get) rings
    → map (λ (g : GetView Sqe). g.address) v.gets ≡ map (λ (e : SqEnds). e.get.address) rings
ring_addresses v rings places =
    sym (map-map (λ (z : RingName × ℕ × ℕ). z.1) get_place v.gets) ∙ ap (λ zs. map (λ (z : RingName × ℕ × ℕ). z.1) zs) places
    ∙ map-map (λ (z : RingName × ℕ × ℕ). z.1) (λ (e : SqEnds). get_place e.get) rings

-- the same of completion regions
pub cq_addresses : (v : FrontView) (plans : List CqPlan) → map put_site v.puts ≡ map cq_site plans
    → map (λ (p : PutView Cqe). p.address) v.puts ≡ map (λ (c : CqPlan). c.address) plans
cq_addresses v plans sites = sym (map-map (λ (z : ℕ × ℕ). z.0) put_site v.puts) ∙ ap (λ zs. map (λ (z : ℕ × ℕ). z.0) zs) sites ∙ map-map (λ (z : ℕ × ℕ). z.0) cq_site plans

-- ---- fresh fronts
-- a front that stays fresh twice stays fresh
pub fresh_then : (a b c : FrontView) → StaysFresh a b → StaysFresh b c → StaysFresh a c
fresh_then a b c first second = record {
  log = second.log;
  not_late = second.not_late;
  mechanism = second.mechanism ∙ first.mechanism;
  start = second.start ∙ first.start;
  sizes = second.sizes ∙ first.sizes;
  regions = second.regions;
  hands = second.hands ∙ first.hands;
  limit = second.limit ∙ first.limit;
}

-- ---- a region more
-- the sites of completion regions, one more added
cq_sites_more : (old new : FrontView) (d : Drainer Cqe) (plans : List CqPlan) (plan : CqPlan) → AddsCq plan.address plan.slots d old new
    → map put_site old.puts ≡ map cq_site plans → map put_site new.puts ≡ map cq_site (plans ++ plan ∷ [])
cq_sites_more old new d plans plan adds before =
    let site : RingName × ℕ × ℕ → ℕ × ℕ = λ z. (z.1, z.2) in
    sym (map-map site put_place new.puts)
    ∙ ap (λ zs. map site zs) adds.puts
    ∙ map-append site (map put_place old.puts) (drainer_place d ∷ [])
    ∙ (λ i. (map-map site put_place old.puts ∙ before) i ++ (adds.address_is i, adds.slots_are i) ∷ [])
    ∙ sym (map-append cq_site plans (plan ∷ []))

-- submission regions were added, and one more
pub sqs_more : (first old new : FrontView) (rings : List SqEnds) (ends : SqEnds) (feeders now : List (Feeder Sqe)) (f : Feeder Sqe)
    → AddsSqs rings feeders first old → AddsSq ends f old new → now ≡ feeders ++ f ∷ [] → AddsSqs (rings ++ ends ∷ []) now first new
sqs_more first old new rings ends feeders now f before adds is_now =
    subst (λ fs. AddsSqs (rings ++ ends ∷ []) fs first new) (sym is_now) (record {
      hosts = maps_more feeder_seen (λ (e : SqEnds). feeder_seen e.feeder) feeders rings f ends before.hosts adds.host;
      gets = adds.gets ∙ ap (λ zs. zs ++ get_place ends.get ∷ []) before.gets ∙ sym (map-append (λ (e : SqEnds). get_place e.get) rings (ends ∷ []));
      rests = adds.rests ∙ ap (λ zs. zs ++ sent_by f ∷ []) before.rests ∙ sym (map-append sent_by feeders (f ∷ []));
      puts = adds.puts ∙ before.puts;
      stays = fresh_then first old new before.stays adds.stays;
    })

-- completion regions were added, and one more
pub cqs_more : (first old new : FrontView) (plans : List CqPlan) (plan : CqPlan) (drainers now : List (Drainer Cqe)) (d : Drainer Cqe)
    → AddsCqs plans drainers first old → AddsCq plan.address plan.slots d old new → now ≡ drainers ++ d ∷ []
    → AddsCqs (plans ++ plan ∷ []) now first new
cqs_more first old new plans plan drainers now d before adds is_now =
    subst (λ ds. AddsCqs (plans ++ plan ∷ []) ds first new) (sym is_now) (record {
      puts = adds.puts ∙ ap (λ zs. zs ++ drainer_place d ∷ []) before.puts ∙ sym (map-append drainer_place drainers (d ∷ []));
      sites = cq_sites_more old new d plans plan adds before.sites;
      gets = adds.gets ∙ before.gets;
      stays = fresh_then first old new before.stays adds.stays;
    })
