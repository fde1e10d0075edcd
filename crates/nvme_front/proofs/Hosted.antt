-- The hosts of a front and its ends, region by region.
use Rattle.std.proofs.Common.{◌≡◌, ℕ, ◌+◌, ◌<◌, ◌≤◌, Bool, true, false, List, [], ◌∷◌, ◌++◌, map, length, set, get_or, take, ◌⊎◌, inl, inr, refl, sym, ap, subst, ◌∙◌, arith}
use Rattle.std.proofs.lemmas.List.{append-nil, length-map, map-set, get_or-map, get_or-set_same, get_or-set_other, set-get_or, same_lists, get_or_default}
use Rattle.std.proofs.lemmas.Option.{slice_get_cases}
use Rattle.std.specs.Prelude.{reverse, nat_lt, ◌&&◌}
use Rattle.std.proofs.lemmas.Bool.{lt-ltb}
use Rattle.std.proofs.lemmas.Bool.Decides.{eqb_tells}
use mathlib.Core.List.{IsPrefix}
use Rattle.nvme_lane.proofs.Prefixes.{IsPrefix-trans}
use Rattle.nvme_entry.specs.declared.submission.Sqe.{Sqe}
use Rattle.nvme_entry.specs.declared.completion.Cqe.{Cqe}
use Rattle.nvme_lane.specs.View.{GetView, PutView, IsPair, SameGet}
use Rattle.nvme_lane.specs.Feeder.{script_of, count_of, put_of}
use Rattle.nvme_lane.specs.Drainer.{items_of, get_of}
use Rattle.nvme_lane.specs.declared.feeder.Feeder.{Feeder}
use Rattle.nvme_lane.specs.declared.drainer.Drainer.{Drainer}
use Rattle.nvme_front.specs.Ends.{get_place, put_place}
use Rattle.nvme_front.specs.View.{FrontView, past_in, got_in, known_in, sent_in, free_in}
use Rattle.nvme_log.specs.Queues.{is_serving}
use Rattle.nvme_front.specs.Hosts.{ArePaired, AreHosts, IsFedBy, IsDrainedBy, feeder_place, drainer_place, told, submitted_at, free_at, taken_at}
use Rattle.nvme_front.specs.inside.Looks.{LooksAtSq, LooksAtCq}
use Rattle.nvme_front.specs.Unsettled.{IsSameFront, TakesOf, Takes}
use Rattle.nvme_front.specs.inside.Resting.{Rests, Collects}
use Rattle.nvme_log.proofs.Prefixes.{IsPrefix-refl}

-- an element of a list, where there is one
element : {X : Type 0} (xs : List X) (i : ℕ) → i < length xs → (x : X) × (get_or xs i x ≡ x)
element xs i l = elim ((slice_get_cases xs i).1) [ inl p ↦ (p.0, p.3) | inr p ↦ absurd (let q = p.0 in omega arith) ]

-- ---- addresses
module _ {X Y Z : Type 0} (f : X → Z) (g : Y → Z) where
  -- lists of which the same is seen at each place
  pub seen_same : (xs : List X) (ys : List Y) → length xs ≡ length ys → ((k : ℕ) (x : X) (y : Y) → k < length xs → f (get_or xs k x) ≡ g (get_or ys k y)) → map f xs ≡ map g ys
  seen_same xs ys same at =
      same_lists (map f xs) (map g ys) (length-map xs f ∙ same ∙ sym (length-map ys g))
      (λ k d l.
      let low : k < length xs = rw length-map at l in
      let low' : k < length ys = rw (← same) low in
      let x = (element xs k low).0 in
      let y = (element ys k low').0 in
      get_or-map f xs k x d low ∙ at k x y low ∙ sym (get_or-map g ys k y d low'))

  pub seen_length : (xs : List X) (ys : List Y) → map f xs ≡ map g ys → length xs ≡ length ys
  seen_length xs ys e = sym (length-map xs f) ∙ ap length e ∙ length-map ys g

  pub seen_at : (xs : List X) (ys : List Y) → map f xs ≡ map g ys → (k : ℕ) → k < length xs → (x : X) (y : Y) → f (get_or xs k x) ≡ g (get_or ys k y)
  seen_at xs ys e k l x y =
      let l' : k < length ys = subst (λ z. k < z) (seen_length xs ys e) l in
      sym (get_or-map f xs k x (f x) l) ∙ ap (λ z. get_or z k (f x)) e ∙ get_or-map g ys k y (f x) l'

  -- what is seen at a place differs
  pub seen_differs : (xs : List X) (ys : List Y) (k : ℕ) (x : X) (a b : Z) → k < length xs → x ≡ get_or xs k x → a ≡ f x → ((y : Y) → b ≡ g (get_or ys k y)) → (a ≡ b → ⊥)
      → map f xs ≡ map g ys → ⊥
  seen_differs xs ys k x a b l read fa gb differ e =
      let l' : k < length ys = subst (λ z. k < z) (seen_length xs ys e) l in
      let y = (element ys k l').0 in
      differ (fa ∙ ap f read ∙ seen_at xs ys e k l x y ∙ sym (gb y))

-- hosts that are paired with a front and have its addresses have the other ends of its rings
pub fed_from_pairs : (v : FrontView) (feeders : List (Feeder Sqe)) (drainers : List (Drainer Cqe)) → ArePaired v feeders drainers → AreHosts v feeders drainers → IsFedBy v feeders
fed_from_pairs v feeders drainers pairs hosts =
    let same = seen_length (λ (f : Feeder Sqe). (put_of f).address) (λ (g : GetView Sqe). g.address) feeders v.gets hosts.feeders_are in
    seen_same feeder_place get_place feeders v.gets same
    (λ k f g l.
    let p = pairs.sqs k f g l (rw (← same) l) (seen_at (λ (f : Feeder Sqe). (put_of f).address) (λ (g : GetView Sqe). g.address) feeders v.gets hosts.feeders_are k l f g) in
    λ t. (p.0 t, p.1 t, p.2 t))

pub drained_from_pairs : (v : FrontView) (feeders : List (Feeder Sqe)) (drainers : List (Drainer Cqe)) → ArePaired v feeders drainers → AreHosts v feeders drainers → IsDrainedBy v drainers
drained_from_pairs v feeders drainers pairs hosts =
    let same = seen_length (λ (d : Drainer Cqe). (get_of d).address) (λ (p : PutView Cqe). p.address) drainers v.puts hosts.drainers_are in
    seen_same drainer_place put_place drainers v.puts same
    (λ k d p l.
    let q = pairs.cqs k d p l (rw (← same) l) (seen_at (λ (d : Drainer Cqe). (get_of d).address) (λ (p : PutView Cqe). p.address) drainers v.puts hosts.drainers_are k l d p) in
    λ t. (sym q.0 t, sym q.1 t, sym q.2 t))

-- a host that was read has the other end of its region's ring
pub fed_at : (v : FrontView) (feeders : List (Feeder Sqe)) → IsFedBy v feeders → (r : ℕ) (x : Feeder Sqe) → r < length feeders → x ≡ get_or feeders r x
    → (g : GetView Sqe) → IsPair (put_of x) (get_or v.gets r g)
fed_at v feeders fed r x l read g =
    let e : feeder_place x ≡ get_place (get_or v.gets r g) = ap feeder_place read ∙ seen_at feeder_place get_place feeders v.gets fed r l x g in
    (ap (λ z. z.0) e, ap (λ z. z.1) e, ap (λ z. z.2) e)

pub drained_at : (v : FrontView) (drainers : List (Drainer Cqe)) → IsDrainedBy v drainers → (c : ℕ) (x : Drainer Cqe) → c < length drainers → x ≡ get_or drainers c x
    → (p : PutView Cqe) → IsPair (get_or v.puts c p) (get_of x)
drained_at v drainers drained c x l read p =
    let e : drainer_place x ≡ put_place (get_or v.puts c p) = ap drainer_place read ∙ seen_at drainer_place put_place drainers v.puts drained c l x p in
    (sym (ap (λ z. z.0) e), sym (ap (λ z. z.1) e), sym (ap (λ z. z.2) e))

-- ---- lists after one element was replaced
-- what is seen of each element stays, where that of the new element is that of the old
pub seen-set : {X Y : Type 0} (f : X → Y) (xs : List X) (i : ℕ) (x : X) → i < length xs → ((d : X) → f x ≡ f (get_or xs i d)) → map f (set xs i x) ≡ map f xs
seen-set f xs i x l h =
    map-set f xs i x ∙ ap (set (map f xs) i) (h x ∙ sym (get_or-map f xs i x (f x) l)) ∙ set-get_or (map f xs) i (f x)

pub part-same : {X Y : Type 0} (f : X → Y) (d : Y) (xs : List X) (k : ℕ) (x : X) → k < length xs → get_or (map f (set xs k x)) k d ≡ f x
part-same f d xs k x h =
    let l : k < length (map f xs) = rw length-map h in
    ap (λ z. get_or z k d) (map-set f xs k x) ∙ get_or-set_same (map f xs) k (f x) d l

pub part-other : {X Y : Type 0} (f : X → Y) (d : Y) (xs : List X) (k : ℕ) (x : X) (r : ℕ) → (r ≡ k → ⊥) → get_or (map f (set xs k x)) r d ≡ get_or (map f xs) r d
part-other f d xs k x r h = ap (λ z. get_or z r d) (map-set f xs k x) ∙ get_or-set_other (map f xs) k r (f x) d h

pub IsSameFront-trans : (u v w : FrontView) → IsSameFront u v → IsSameFront v w → IsSameFront u w
IsSameFront-trans u v w g h = record {
  rules = h.rules ∙ g.rules;
  limit = h.limit ∙ g.limit;
  late = h.late ∙ g.late;
  log = h.log ∙ g.log;
  got = h.got ∙ g.got;
  knows = λ r. IsPrefix-trans (known_in u r) (known_in v r) (known_in w r) (g.knows r) (h.knows r);
  get_places = h.get_places ∙ g.get_places;
  sent = h.sent ∙ g.sent;
  put_places = h.put_places ∙ g.put_places;
  frees = λ c. let a = g.frees c in let b = h.frees c in omega arith;
  hands = h.hands ∙ g.hands;
}

-- a look leaves the same front
same-sq : (r : ℕ) (x x' : Feeder Sqe) (v w : FrontView) (rests : ℕ) → r < length v.gets → LooksAtSq r x x' v w rests → IsSameFront v w
same-sq r x x' v w rests l look = record {
  rules = ap (λ (z : FrontView). z.rules) look.view;
  limit = ap (λ (z : FrontView). z.limit) look.view;
  late = ap (λ (z : FrontView). z.late) look.view;
  log = ap (λ (z : FrontView). z.log) look.view;
  got = ap (λ (z : FrontView). map (λ (g : GetView Sqe). g.got) z.gets) look.view ∙ seen-set (λ (g : GetView Sqe). g.got) v.gets r look.end l look.got;
  knows = λ n. elim (eqb_tells n r) [
    | inl p ↦ subst (λ z. IsPrefix (known_in v z) (known_in w z)) (sym p.1)
        (rw (ap (λ (z : FrontView). known_in z r) look.view ∙ part-same (λ (g : GetView Sqe). g.known) [] v.gets r look.end l)
        (subst (λ z. IsPrefix z look.end.known) (sym (get_or-map (λ (g : GetView Sqe). g.known) v.gets r look.end [] l)) (look.known look.end)))
    | inr p ↦ subst (λ z. IsPrefix (known_in v n) z) (sym (ap (λ (z : FrontView). known_in z n) look.view ∙ part-other (λ (g : GetView Sqe). g.known) [] v.gets r look.end n p.1)) (IsPrefix-refl (known_in v n))
  ];
  get_places = ap (λ (z : FrontView). map get_place z.gets) look.view ∙ seen-set get_place v.gets r look.end l look.place;
  sent = ap (λ (z : FrontView). map (λ (p : PutView Cqe). p.sent) z.puts) look.view;
  put_places = ap (λ (z : FrontView). map put_place z.puts) look.view;
  frees = λ c. subst (λ z. free_in v c ≤ z) (sym (ap (λ (z : FrontView). free_in z c) look.view)) (omega arith);
  hands = ap (λ (z : FrontView). z.hands) look.view;
}

same-cq : (c : ℕ) (x x' : Drainer Cqe) (v w : FrontView) (rests : ℕ) → c < length v.puts → LooksAtCq c x x' v w rests → IsSameFront v w
same-cq c x x' v w rests l look = record {
  rules = ap (λ (z : FrontView). z.rules) look.view;
  limit = ap (λ (z : FrontView). z.limit) look.view;
  late = ap (λ (z : FrontView). z.late) look.view;
  log = ap (λ (z : FrontView). z.log) look.view;
  got = ap (λ (z : FrontView). map (λ (g : GetView Sqe). g.got) z.gets) look.view;
  knows = λ r. subst (λ z. IsPrefix (known_in v r) z) (sym (ap (λ (z : FrontView). known_in z r) look.view)) (IsPrefix-refl (known_in v r));
  get_places = ap (λ (z : FrontView). map get_place z.gets) look.view;
  sent = ap (λ (z : FrontView). map (λ (p : PutView Cqe). p.sent) z.puts) look.view ∙ seen-set (λ (p : PutView Cqe). p.sent) v.puts c look.end l look.sent;
  put_places = ap (λ (z : FrontView). map put_place z.puts) look.view ∙ seen-set put_place v.puts c look.end l look.place;
  frees = λ n. elim (eqb_tells n c) [
    | inl q ↦ subst (λ z. free_in v z ≤ free_in w z) (sym q.1)
        (rw (ap (λ (z : FrontView). free_in z c) look.view ∙ part-same (λ (p : PutView Cqe). p.free) 0 v.puts c look.end l)
        (subst (λ z. z ≤ look.end.free) (sym (get_or-map (λ (p : PutView Cqe). p.free) v.puts c look.end 0 l)) (look.free look.end)))
    | inr q ↦ subst (λ z. free_in v n ≤ z) (sym (ap (λ (z : FrontView). free_in z n) look.view ∙ part-other (λ (p : PutView Cqe). p.free) 0 v.puts c look.end n q.1)) (omega arith)
  ];
  hands = ap (λ (z : FrontView). z.hands) look.view;
}

pub Rests-more : (n : ℕ) (quiet quiet' : Bool) (f f' : List (Feeder Sqe)) (v w w' : FrontView) (x x' : Feeder Sqe) (rests : ℕ)
    → Rests n quiet f f' v w → n < length f' → n < length w.gets → x ≡ get_or f' n x → LooksAtSq n x x' w w' rests
    → (quiet' ≡ true → (quiet ≡ true) × (is_serving (past_in v) n ≡ true → rests ≡ 0))
    → (quiet' ≡ false → (quiet ≡ false) ⊎ ((is_serving (past_in v) n ≡ true) × (0 < rests)))
    → Rests (n + 1) quiet' f (set f' n x') v w'
Rests-more n quiet quiet' f f' v w w' x x' rests s l l' read look when_true when_false = record {
  front = IsSameFront-trans v w w' s.front (same-sq n x x' w w' rests l' look);
  feeders = record {
    told_is = seen-set told f' n x' l (λ d. (λ i. (look.script i, look.sent i)) ∙ ap told (at d)) ∙ s.feeders.told_is;
    places = seen-set feeder_place f' n x' l (λ d. (λ i. (look.put.0 i, look.put.1 i, look.put.2 i)) ∙ ap feeder_place (at d)) ∙ s.feeders.places;
    frees = λ r. elim (eqb_tells r n) [
      | inl p ↦ subst (λ z. free_at f z ≤ free_at (set f' n x') z) (sym p.1) (let a = s.feeders.frees n in let b = look.free in omega (arith, a, b, free_here, free_before))
      | inr p ↦ subst (λ z. free_at f r ≤ z) (sym (part-other (λ (q : Feeder Sqe). (put_of q).free) 0 f' n x' r p.1)) (s.feeders.frees r)
    ];
  };
  puts = ap (λ (z : FrontView). z.puts) look.view ∙ s.puts;
  rest = λ r q. elim (eqb_tells r n) [
    | inl p ↦ subst (λ z. got_in w' z ++ known_in w' z ≡ submitted_at (set f' n x') z) (sym p.1)
        ((λ i. here_got i ++ here_known i) ∙ look.rest ∙ x'.accounted ∙ sym (part-same (λ (f : Feeder Sqe). take (count_of f) (script_of f)) [] f' n x' l))
    | inr p ↦ (λ i. other_got r p.1 i ++ other_known r p.1 i) ∙ s.rest r (let a = p.1 in omega arith) ∙ sym (part-other (λ (f : Feeder Sqe). take (count_of f) (script_of f)) [] f' n x' r p.1)
  ];
  none = λ t r q serving. elim (eqb_tells r n) [
    | inl p ↦ subst (λ z. known_in w' z ≡ []) (sym p.1) (here_known ∙ nil look.end.known (sym look.count ∙ (when_true t).1 (subst (λ z. is_serving (past_in v) z ≡ true) p.1 serving)))
    | inr p ↦ other_known r p.1 ∙ s.none (when_true t).0 r (let a = p.1 in omega arith) serving
  ];
  some = λ t. elim (when_false t) [
    | inl p ↦
        let q = s.some p in
        let b = q.below in
        let low : q.region < n + 1 = omega arith in
        let ne : q.region ≡ n → ⊥ = λ e. absurd (omega arith) in
        record { region = q.region; below = low; serving = q.serving; rests = λ e. q.rests (sym (other_known q.region ne) ∙ e) }
    | inr p ↦
        let low : n < n + 1 = omega arith in
        let positive = p.1 in
        record { region = n; below = low; serving = p.0; rests = λ e. absurd (omega (arith, look.count, ap length (sym here_known ∙ e))) }
  ];
}
  where
    at : (d : Feeder Sqe) → x ≡ get_or f' n d
    at d = read ∙ get_or_default f' n x d l

    free_here : free_at (set f' n x') n ≡ (put_of x').free
    free_here = part-same (λ (q : Feeder Sqe). (put_of q).free) 0 f' n x' l

    free_before : free_at f' n ≡ (put_of x).free
    free_before = get_or-map (λ (q : Feeder Sqe). (put_of q).free) f' n x 0 l ∙ ap (λ (q : Feeder Sqe). (put_of q).free) (sym read)

    here_got : got_in w' n ≡ look.end.got
    here_got = ap (λ (z : FrontView). got_in z n) look.view ∙ part-same (λ (g : GetView Sqe). g.got) [] w.gets n look.end l'

    here_known : known_in w' n ≡ look.end.known
    here_known = ap (λ (z : FrontView). known_in z n) look.view ∙ part-same (λ (g : GetView Sqe). g.known) [] w.gets n look.end l'

    other_got : (r : ℕ) → (r ≡ n → ⊥) → got_in w' r ≡ got_in w r
    other_got r h = ap (λ (z : FrontView). got_in z r) look.view ∙ part-other (λ (g : GetView Sqe). g.got) [] w.gets n look.end r h

    other_known : (r : ℕ) → (r ≡ n → ⊥) → known_in w' r ≡ known_in w r
    other_known r h = ap (λ (z : FrontView). known_in z r) look.view ∙ part-other (λ (g : GetView Sqe). g.known) [] w.gets n look.end r h

    nil : {X : Type 0} (xs : List X) → length xs ≡ 0 → xs ≡ []
    nil [] h = refl
    nil (y ∷ ys) h = absurd (omega arith)

-- whether a region is served, as the front says it, is so of its log before
pub serving_is : (n : ℕ) (v w : FrontView) (b : Bool) → w.log ≡ v.log → n < length w.gets → b ≡ (nat_lt n (length w.gets) && is_serving (past_in w) n) → b ≡ is_serving (past_in v) n
serving_is n v w b log l e =
    e ∙ ap (λ z. z && is_serving (past_in w) n) (lt-ltb n (length w.gets) l) ∙ ap (λ z. is_serving (reverse z) n) log

-- a list that had come so far goes on
takes_on : (sent a b c : List Cqe) → TakesOf sent a b → IsPrefix b c → IsPrefix c sent → TakesOf sent a c
takes_on sent a b c h p q = elim h [
  | inl e ↦ inr (subst (λ z. IsPrefix z c) e p, q)
  | inr s ↦ inr (IsPrefix-trans a b c s.0 p, q)
]

-- a drainer took some of what rests in its ring, after the look at it
module _ (n : ℕ) (d d' : List (Drainer Cqe)) (v w w' : FrontView) (x y x' : Drainer Cqe) (rests : ℕ)
    (s : Collects n d d' v w) (l : n < length d') (l' : n < length w.puts) (read : x ≡ get_or d' n x) (look : LooksAtCq n x y w w' rests)
    (ring : SameGet (get_of y) (get_of x')) (grew : IsPrefix (items_of y) (items_of x')) (next : items_of x' ++ (get_of x').known ≡ items_of y ++ (get_of y).known) where
  drainer_at : (z : Drainer Cqe) → x ≡ get_or d' n z
  drainer_at z = read ∙ get_or_default d' n x z l

  -- all that was put into the ring
  ring_has : sent_in v n ≡ look.end.sent
  ring_has = ap (λ z. get_or z n []) (sym (IsSameFront-trans v w w' s.front (same-cq n x y w w' rests l' look)).sent)
      ∙ ap (λ (z : FrontView). sent_in z n) look.view ∙ part-same (λ (p : PutView Cqe). p.sent) [] w.puts n look.end l'

  taken_here : taken_at (set d' n x') n ≡ items_of x'
  taken_here = part-same (λ (z : Drainer Cqe). items_of z) [] d' n x' l

  taken_other : (c : ℕ) → (c ≡ n → ⊥) → taken_at (set d' n x') c ≡ taken_at d' c
  taken_other c h = part-other (λ (z : Drainer Cqe). items_of z) [] d' n x' c h

  taken_before : taken_at d' n ≡ items_of y
  taken_before = get_or-map (λ (z : Drainer Cqe). items_of z) d' n x [] l ∙ ap (λ (z : Drainer Cqe). items_of z) (sym read) ∙ sym look.items

  takes_some : Takes v d (set d' n x')
  takes_some = record {
    places = seen-set drainer_place d' n x' l (λ z. (λ i. (ring.0 i, ring.1 i, ring.2 i)) ∙ (λ i. (look.get.0 i, look.get.1 i, look.get.2 i)) ∙ ap drainer_place (drainer_at z)) ∙ s.takes.places;
    taken = λ c. elim (eqb_tells c n) [
      | inl p ↦ subst (λ z. TakesOf (sent_in v z) (taken_at d z) (taken_at (set d' n x') z)) (sym p.1)
          (rw taken_here (takes_on (sent_in v n) (taken_at d n) (taken_at d' n) (items_of x') (s.takes.taken n) (rw taken_before grew)
          ((get_of x').known, next ∙ look.rest ∙ sym ring_has)))
      | inr p ↦ rw (taken_other c p.1) (s.takes.taken c)
    ];
  }

  pub Collects-some : Collects 0 d (set d' n x') v w'
  Collects-some = record {
    front = IsSameFront-trans v w w' s.front (same-cq n x y w w' rests l' look);
    gets = ap (λ (z : FrontView). z.gets) look.view ∙ s.gets;
    takes = takes_some;
    all = λ c l. absurd (omega arith);
  }

  pub Collects-more : (get_of x').known ≡ [] → Collects (n + 1) d (set d' n x') v w'
  Collects-more none = record {
    front = IsSameFront-trans v w w' s.front (same-cq n x y w w' rests l' look);
    gets = ap (λ (z : FrontView). z.gets) look.view ∙ s.gets;
    takes = takes_some;
    all = λ c q. elim (eqb_tells c n) [
      | inl p ↦ subst (λ z. taken_at (set d' n x') z ≡ sent_in v z) (sym p.1)
          (taken_here ∙ sym (append-nil (items_of x')) ∙ ap (λ z. items_of x' ++ z) (sym none) ∙ next ∙ look.rest ∙ sym ring_has)
      | inr p ↦ taken_other c p.1 ∙ s.all c (let a = p.1 in omega arith)
    ];
  }
