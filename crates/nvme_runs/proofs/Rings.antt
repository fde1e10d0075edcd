-- The rings of a workload, and what a front knows of them.
use Rattle.std.proofs.Common.{◌≡◌, ℕ, zero, suc, List, [], ◌∷◌, ◌++◌, map, get_or, refl, sym, ap, ◌∙◌, subst}
use Rattle.std.specs.List.{All, AllZip}
use Rattle.std.specs.Prelude.{Result, Ok, Err, IfOk}
use Rattle.std.proofs.lemmas.List.Elements.{All-nil, All-cons}
use Rattle.nvme_entry.specs.declared.submission.Sqe.{Sqe}
use Rattle.nvme_lane.specs.View.{GetView, SamePut, SameGet}
use Rattle.nvme_lane.specs.Feeder.{script_of, put_of}
use Rattle.nvme_lane.specs.declared.feeder.Feeder.{Feeder}
use Rattle.nvme_workload.specs.declared.plan.SqPlan.{SqPlan}
use Rattle.nvme_front.specs.Ends.{get_place}
use Rattle.nvme_front.specs.Hosts.{feeder_place}
use Rattle.nvme_front.specs.View.{FrontView}
use Rattle.nvme_threads.specs.Hosts.{ends_seen}
use Rattle.nvme_threads.specs.declared.loaded_rings.SqEnds.{SqEnds}
use Rattle.nvme_runs.specs.inside.Prepared.{StaysFresh, IsFreshRing, IsRingOf, AddsSq, seen_in}

-- ---- lists that are related place by place
-- what is the same of each pair is the same of both lists
pub zip_maps : {A B C : Type 0} (R : A → B → Type 0) (f : A → C) (g : B → C) → ((a : A) (b : B) → R a b → g b ≡ f a) → (xs : List A) (ys : List B) → AllZip R xs ys
    → map g ys ≡ map f xs
zip_maps R f g so [] [] all = refl
zip_maps R f g so [] (b ∷ ys) all = absurd all
zip_maps R f g so (a ∷ xs) [] all = absurd all
zip_maps R f g so (a ∷ xs) (b ∷ ys) all = λ i. so a b all.0 i ∷ zip_maps R f g so xs ys all.1 i

-- what holds of each second one holds of all of them
zip_all : {A B : Type 0} (R : A → B → Type 0) (P : B → Type 0) → ((a : A) (b : B) → R a b → P b) → (xs : List A) (ys : List B) → AllZip R xs ys → All P ys
zip_all R P so [] [] all = All-nil P
zip_all R P so [] (b ∷ ys) all = absurd all
zip_all R P so (a ∷ xs) [] all = absurd all
zip_all R P so (a ∷ xs) (b ∷ ys) all = All-cons P b ys (so a b all.0) (zip_all R P so xs ys all.1)

-- ---- rings
-- the rings of a workload are fresh
pub are_fresh : (plans : List SqPlan) (rings : List SqEnds) → AllZip IsRingOf plans rings → All IsFreshRing rings
are_fresh plans rings all = zip_all IsRingOf IsFreshRing (λ p e is. is.fresh) plans rings all

-- one more ring for one more region
pub rings_more : (plans : List SqPlan) (rings now : List SqEnds) (p : SqPlan) (e : SqEnds) → AllZip IsRingOf plans rings → IsRingOf p e → now ≡ rings ++ e ∷ []
    → AllZip IsRingOf (plans ++ p ∷ []) now
rings_more [] [] now p e all one is = subst (λ (es : List SqEnds). AllZip IsRingOf (p ∷ []) es) (sym is) (one, tt)
rings_more [] (x ∷ rings) now p e all one is = absurd all
rings_more (q ∷ plans) [] now p e all one is = absurd all
rings_more (q ∷ plans) (x ∷ rings) now p e all one is =
    subst (λ (es : List SqEnds). AllZip IsRingOf (q ∷ plans ++ p ∷ []) es) (sym is) (all.0, rings_more plans rings (rings ++ e ∷ []) p e all.1 one refl)

-- the two ends of each are at one place
pub one_place : (rings : List SqEnds) → (plans : List SqPlan) → AllZip IsRingOf plans rings
    → map (λ (e : SqEnds). feeder_place e.feeder) rings ≡ map (λ (e : SqEnds). get_place e.get) rings
one_place [] [] all = refl
one_place [] (p ∷ plans) all = absurd all
one_place (e ∷ rings) [] all = absurd all
one_place (e ∷ rings) (p ∷ plans) all = λ i. all.0.fresh.pair i ∷ one_place rings plans all.1 i

-- rings of which the same is seen are of the same workload
ring_seen : (p : SqPlan) (e e' : SqEnds) → ends_seen e' ≡ ends_seen e → IsRingOf p e → IsRingOf p e'
ring_seen p e e' same is = record {
  fresh = record {
    pair = ap (λ z. z.0.1) same ∙ is.fresh.pair ∙ sym (ap (λ z. get_place z.1) same);
    nothing_got = ap (λ z. z.1.got) same ∙ is.fresh.nothing_got;
  };
  address = ap (λ z. z.1.address) same ∙ is.address;
  slots = ap (λ z. z.1.slots) same ∙ is.slots;
  script = ap (λ z. z.0.0) same ∙ is.script;
}

pub rings_seen : (plans : List SqPlan) (rings back : List SqEnds) → map ends_seen back ≡ map ends_seen rings → AllZip IsRingOf plans rings → AllZip IsRingOf plans back
rings_seen [] [] [] same all = tt
rings_seen [] [] (b ∷ back) same all = cc same
rings_seen [] (e ∷ rings) back same all = absurd all
rings_seen (p ∷ plans) [] back same all = absurd all
rings_seen (p ∷ plans) (e ∷ rings) [] same all = cc same
rings_seen (p ∷ plans) (e ∷ rings) (b ∷ back) same all =
    let first : ends_seen b ≡ ends_seen e = cc same in
    let rest : map ends_seen back ≡ map ends_seen rings = cc same in
    (ring_seen p e b first all.0, rings_seen plans rings back rest all.1)

-- so are those that were loaded
pub loaded_rings : {L V E : Type 0} (items : V → List SqEnds) (plans : List SqPlan) (rings : List SqEnds) (result : Result (L × V) E)
    → IfOk result (λ r. map ends_seen (items r.1) ≡ map ends_seen rings) → AllZip IsRingOf plans rings → IfOk result (λ r. AllZip IsRingOf plans (items r.1))
loaded_rings items plans rings (Ok r) same all = rings_seen plans rings (items r.1) same all
loaded_rings items plans rings (Err e) same all = tt

-- what was got, and then what is known, place by place
pub seen_at : (gets : List (GetView Sqe)) (r : ℕ)
    → get_or (map (λ (g : GetView Sqe). g.got) gets) r [] ++ get_or (map (λ (g : GetView Sqe). g.known) gets) r [] ≡ get_or (map seen_in gets) r []
seen_at [] r = refl
seen_at (g ∷ gets) zero = refl
seen_at (g ∷ gets) (suc r) = seen_at gets r
