-- The hosts of queues.
use Rattle.std.proofs.Common.{◌≡◌, ◌∙◌, ◌<◌, ◌≤◌, ℕ, ◌+◌, ◌%◌, Bool, true, not, List, [], ◌∷◌, ◌++◌, length, map, get_or, All, Option, Some, None, option_map, refl, sym, ap, subst, arith, inl, inr}
use Rattle.std.specs.Prelude.{IfSome, is_some, slice_get, slice_set}
use Rattle.std.proofs.Math.Seq.{map-set_same}
use Rattle.std.proofs.lemmas.Bool.{cases_eq, cases_lt, true≢false}
use Rattle.std.proofs.lemmas.List.{append_assoc, append-nil, length-map, map-append}
use Rattle.std.proofs.lemmas.List.Elements.{All-push, All-set}
use Rattle.std.proofs.lemmas.Option.{get_or_from_slice_get, slice_get-map, slice_get_past, slice_get_within}
use native.Mathlib.Nat.{mod-eq_of_lt}
use Rattle.nvme_arbiter.specs.declared.settings.Class.{Class}
use Rattle.nvme_clock.specs.Held.{Held}
use Rattle.nvme_model.specs.declared.queue.Queue.{Queue}
use Rattle.nvme_simulation.specs.Asking.{Asking, asking_of}
use Rattle.nvme_simulation.specs.Beginnings.{DrawAsking, DrawTheirStreams, HasAskingStreams, HasStreams, IsUnused, Shows, ShowsAll, ShowsNone, ShowsQueues, StayUnused, qid_at}
use Rattle.nvme_simulation.specs.First.{BeginsQueues}
use Rattle.nvme_simulation.specs.Loads.{Load, load_in, load_of}
use Rattle.nvme_simulation.specs.Stages.{none_came}
use Rattle.nvme_simulation.specs.declared.agenda.Event.{Event}
use Rattle.nvme_simulation.specs.declared.flight.Flights.{Flights}
use Rattle.nvme_simulation.specs.declared.front.Front.{Front}
use Rattle.nvme_simulation.specs.declared.host.Host.{Host}
use Rattle.nvme_simulation.specs.declared.hosts.Hosts.{Hosts}
use Rattle.nvme_simulation.proofs.Moves.{at_end, beside}

-- the host of one queue more
pub one_more : (all new : List Host) (h : Host) (before after : List Queue) (q : Queue) (total : List Load) → new ≡ all ++ h ∷ [] → before ≡ q ∷ after
    → load_of h ≡ load_in q → map load_of all ++ map load_in before ≡ total → map load_of new ++ map load_in after ≡ total
one_more all new h before after q total items steps load is =
    ap (λ (hs : List Host). map load_of hs ++ map load_in after) items
    ∙ ap (λ (xs : List Load). xs ++ map load_in after) (map-append load_of all (h ∷ []))
    ∙ append_assoc (map load_of all) (load_of h ∷ []) (map load_in after)
    ∙ ap (λ (l : Load). map load_of all ++ l ∷ map load_in after) load
    ∙ ap (λ (qs : List Queue). map load_of all ++ map load_in qs) (sym steps) ∙ is

pub none_more : (all new : List Host) (h : Host) → new ≡ all ++ h ∷ [] → All IsUnused all → IsUnused h → All IsUnused new
none_more all new h items unused is = subst (λ (hs : List Host). All IsUnused hs) (sym items) (All-push IsUnused all h unused is)

pub none_left : (all : List Host) (left : List Queue) (total : List Load) → length left ≡ 0 → map load_of all ++ map load_in left ≡ total → map load_of all ≡ total
none_left all [] total none is = sym (append-nil (map load_of all)) ∙ is
none_left all (q ∷ left) total none is = absurd (omega (arith, none))

-- the host behind others draws from its streams too
pub streams_more : (seed : ℕ) (all new : List Host) (h : Host) → new ≡ all ++ h ∷ [] → DrawTheirStreams seed all → HasStreams seed (qid_at (length all)) h
    → DrawTheirStreams seed new
streams_more seed all new h items draw has k = elim (cases_eq k (length all)) [
  | inl same ↦
      let it : slice_get new k ≡ Some h = ap (λ (hs : List Host). slice_get hs k) items ∙ ap (slice_get (all ++ h ∷ [])) same ∙ at_end all h in
      subst (λ (o : Option Host). IfSome o (HasStreams seed (qid_at k))) (sym it) (subst (λ (j : ℕ). HasStreams seed (qid_at j) h) (sym same) has)
  | inr other ↦
      let it : slice_get new k ≡ slice_get all k = ap (λ (hs : List Host). slice_get hs k) items ∙ beside all h k other in
      subst (λ (o : Option Host). IfSome o (HasStreams seed (qid_at k))) (sym it) (draw k)
]

pub streams_none : (seed : ℕ) (all : List Host) → length all ≡ 0 → DrawTheirStreams seed all
streams_none seed [] none k = tt
streams_none seed (h ∷ all) none k = absurd (omega (arith, none))

-- what holds of the hosts at so many places holds of one more
pub shown_more : (front : Front) (hosts : List Host) (n : ℕ) → ((k : ℕ) → k < n → IfSome (slice_get hosts k) (λ h. Shows front (qid_at k) h.class))
    → IfSome (slice_get hosts n) (λ h. Shows front (qid_at n) h.class) → (k : ℕ) → k < n + 1 → IfSome (slice_get hosts k) (λ h. Shows front (qid_at k) h.class)
shown_more front hosts n before is k l = elim (cases_eq k n) [
  | inl same ↦ subst (λ (j : ℕ). IfSome (slice_get hosts j) (λ h. Shows front (qid_at j) h.class)) (sym same) is
  | inr other ↦ before k (omega (arith, l, other))
]

pub shown_all : (front : Front) (hosts : List Host) (n : ℕ) → length hosts ≤ n → ((k : ℕ) → k < n → IfSome (slice_get hosts k) (λ h. Shows front (qid_at k) h.class))
    → ShowsAll front hosts
shown_all front hosts n long before k = elim (cases_lt k n) [
  | inl l ↦ before k l
  | inr past ↦
      let none : slice_get hosts k ≡ None = slice_get_past hosts k (omega (arith, long, past)) in
      subst (λ (o : Option Host). IfSome o (λ h. Shows front (qid_at k) h.class)) (sym none) tt
]

-- the identifiers of the queues of a model, which has few
few_qids : (k n : ℕ) → k < n → n ≤ 64 → qid_at k ≡ k + 1
few_qids k n l few = ap (λ (m : ℕ). m + 1) (mod-eq_of_lt (let small : k < 65_535 = omega (arith, l, few) in small))

abbrev class_or : Class → Option Load → Class
class_or class None = class
class_or class (Some load) = load.class

abbrev asking_or : Asking → Option Asking → Asking
asking_or asking None = asking
asking_or asking (Some other) = other

-- where each host has what its queue has, the controller shows the queues of the model
pub shows_queues : (front : Front) (queues : List Queue) (hosts : List Host) → map load_of hosts ≡ map load_in queues → length queues ≤ 64 → ShowsAll front hosts
    → ShowsQueues front queues
shows_queues front queues hosts loads few shows k = at (slice_get queues k) refl where
  of : (q : Queue) (o : Option Host) → k < length queues → slice_get hosts k ≡ o → option_map load_of o ≡ Some (load_in q) → Shows front (k + 1) q.class
  of q None l e there = absurd (cc there)
  of q (Some h) l e there =
      let class : h.class ≡ q.class = ap (λ (o : Option Load). class_or h.class o) there in
      let it : Shows front (qid_at k) h.class = subst (λ (o : Option Host). IfSome o (λ (x : Host). Shows front (qid_at k) x.class)) e (shows k) in
      subst (λ (c : Class). Shows front (k + 1) c) class (subst (λ (n : ℕ). Shows front n h.class) (few_qids k (length queues) l few) it)

  at : (o : Option Queue) → slice_get queues k ≡ o → IfSome o (λ q. Shows front (k + 1) q.class)
  at None e = tt
  at (Some q) e =
      let l : k < length queues = slice_get_within queues k q e in
      let there : option_map load_of (slice_get hosts k) ≡ Some (load_in q) =
      sym (slice_get-map load_of hosts k) ∙ ap (λ (ls : List Load). slice_get ls k) loads ∙ slice_get-map load_in queues k ∙ ap (option_map load_in) e in
      of q (slice_get hosts k) l refl there

-- hosts that draw for no command still have the first draws before them
pub draw_asking : (seed : ℕ) (before after : List Host) → map asking_of after ≡ map asking_of before → length after ≤ 64 → DrawTheirStreams seed before
    → DrawAsking seed after
draw_asking seed before after asking few draw k = at (slice_get after k) refl where
  has : (n : ℕ) (h w : Host) → asking_of w ≡ asking_of h → HasStreams seed n h → HasAskingStreams seed n w
  has n h w same s = record {
    services = ap (λ (a : Asking). a.services) same ∙ s.services;
    operations = ap (λ (a : Asking). a.operations) same ∙ s.operations;
    offsets = ap (λ (a : Asking). a.offsets) same ∙ s.offsets;
  }

  of : (w : Host) (o : Option Host) → k < length after → slice_get before k ≡ o → option_map asking_of o ≡ Some (asking_of w) → HasAskingStreams seed (k + 1) w
  of w None l e there = absurd (cc there)
  of w (Some h) l e there =
      let it : HasStreams seed (qid_at k) h = subst (λ (o : Option Host). IfSome o (HasStreams seed (qid_at k))) e (draw k) in
      let same : asking_of w ≡ asking_of h = sym (ap (λ (o : Option Asking). asking_or (asking_of h) o) there) in
      has (k + 1) h w same (subst (λ (n : ℕ). HasStreams seed n h) (few_qids k (length after) l few) it)

  at : (o : Option Host) → slice_get after k ≡ o → IfSome o (HasAskingStreams seed (k + 1))
  at None e = tt
  at (Some w) e =
      let l : k < length after = slice_get_within after k w e in
      let there : option_map asking_of (slice_get before k) ≡ Some (asking_of w) =
      sym (slice_get-map asking_of before k) ∙ ap (λ (xs : List Asking). slice_get xs k) (sym asking) ∙ slice_get-map asking_of after k ∙ ap (option_map asking_of) e in
      of w (slice_get before k) l refl there

-- there are as many hosts as queues
pub as_many : (queues : List Queue) (hosts : List Host) → map load_of hosts ≡ map load_in queues → length hosts ≡ length queues
as_many queues hosts loads = sym (length-map hosts load_of) ∙ ap (λ (ls : List Load). length ls) loads ∙ length-map queues load_in

pub few_hosts : (queues : List Queue) (hosts : List Host) (n : ℕ) → map load_of hosts ≡ map load_in queues → length queues ≤ n → length hosts ≤ n
few_hosts queues hosts n loads few = let same = as_many queues hosts loads in omega (arith, same, few)

-- the streams of a model's hosts
pub model_streams : (seed : ℕ) (hosts : List Host) → length hosts ≤ 64 → DrawTheirStreams seed hosts → (k : ℕ) → IfSome (slice_get hosts k) (HasStreams seed (k + 1))
model_streams seed hosts few draw k = at (slice_get hosts k) refl where
  at : (o : Option Host) → slice_get hosts k ≡ o → IfSome o (HasStreams seed (k + 1))
  at None e = tt
  at (Some h) e =
      let it : HasStreams seed (qid_at k) h = subst (λ (o : Option Host). IfSome o (HasStreams seed (qid_at k))) e (draw k) in
      subst (λ (n : ℕ). HasStreams seed n h) (few_qids k (length hosts) (slice_get_within hosts k h e) few) it

-- the first events of a model's queues
pub model_begins : (queues : List Queue) (before after : Hosts) (h g f : Held Event) → map load_of before.all.items ≡ map load_in queues → length queues ≤ 64
    → h ≡ f → BeginsQueues (length before.all.items % 65_536) before after h g → BeginsQueues (length queues) before after f g
model_begins queues before after h g f loads few none begins =
    let same : length before.all.items ≡ length queues =
    sym (length-map before.all.items load_of) ∙ ap (λ (ls : List Load). length ls) loads ∙ length-map queues load_in in
    let small : length before.all.items % 65_536 ≡ length before.all.items =
    mod-eq_of_lt (let l : length before.all.items < 65_536 = omega (arith, same, few) in l) in
    subst (λ (e : Held Event). BeginsQueues (length queues) before after e g) none
    (subst (λ (m : ℕ). BeginsQueues m before after h g) (small ∙ same) begins)

-- one host draws
pub one_unused : (before after : Hosts) (place : ℕ) (h w : Host) → after.all.items ≡ slice_set before.all.items place w → place < length before.all.items
    → slice_get before.all.items place ≡ Some h → asking_of w ≡ asking_of h → w.flights ≡ h.flights → w.head ≡ h.head → StayUnused before after
one_unused before after place h w items within at asking flights head =
    let found : get_or before.all.items place h ≡ h = get_or_from_slice_get before.all.items place h h at in
    record {
      asking = ap (map asking_of) items ∙ map-set_same asking_of before.all.items place w h (asking ∙ ap asking_of (sym found));
      loads = ap (map load_of) items ∙ map-set_same load_of before.all.items place w h (ap (λ (a : Asking). a.load) asking ∙ ap load_of (sym found));
      none = λ unused.
          let it : IsUnused h = subst IsUnused found (unused place h within) in
          subst (λ (hs : List Host). All IsUnused hs) (sym items)
          (All-set IsUnused before.all.items place w (record { none = subst (λ (f : Flights). none_came f) (sym flights) it.none; head = head ∙ it.head }) unused);
    }

pub unused_self : (hs : Hosts) → StayUnused hs hs
unused_self hs = record { asking = refl; loads = refl; none = λ unused. unused }

pub unused_then : (a b c : Hosts) → StayUnused a b → StayUnused b c → StayUnused a c
unused_then a b c first second =
    record { asking = second.asking ∙ first.asking; loads = second.loads ∙ first.loads; none = λ unused. second.none (first.none unused) }

-- what holds of so many identifiers holds of one more
pub left_out_more : (front : Front) (count n : ℕ) → ((k : ℕ) → k < n → count < k → ShowsNone front k) → (count < n → ShowsNone front n)
    → (k : ℕ) → k < n + 1 → count < k → ShowsNone front k
left_out_more front count n before is k l = elim (cases_eq k n) [
  | inl same ↦ subst (λ (m : ℕ). count < m → ShowsNone front m) (sym same) is
  | inr other ↦ before k (omega (arith, l, other))
]

pub none_is : {X : Type 0} (o : Option X) (b : Bool) → is_some o ≡ not b → b ≡ true → o ≡ None
none_is None b told is = refl
none_is (Some x) b told is = absurd (true≢false (told ∙ ap not is))
