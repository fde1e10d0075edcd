-- The jobs and the tags of the commands of a pick, which were taken one after another.
use Rattle.std.proofs.Common.{◌≡◌, ◌≢◌, ℕ, ◌+◌, ◌==◌, Bool, List, [], ◌∷◌, ◌++◌, length, map, get_or, Option, Some, None, refl, sym, ap, ◌∙◌, subst, arith, inl, inr, append_assoc}
use Rattle.std.specs.Prelude.{is_none, if◌then◌else◌}
use Rattle.std.specs.List.{Contains}
use Rattle.std.proofs.lemmas.Bool.{cases_Bool, eq-eqb, eqb-true, ne_eqb}
use Rattle.std.proofs.lemmas.List.{map-append}
use Rattle.std.proofs.lemmas.List.Elements.{All-nil, All-cons, All-append, All-same, All-map, Contains-push, Contains-append_left}
use Rattle.nvme_log.specs.Rules.{Past}
use Rattle.nvme_log.specs.Places.{entry_at}
use Rattle.nvme_log.specs.Answers.{Answer}
use Rattle.nvme_log.specs.Dispatches.{place_at}
use Rattle.nvme_log.specs.declared.place.Place.{Place}
use Rattle.nvme_ctrl_log.specs.Notes.{Notes, Taken, logged}
use Rattle.nvme_ctrl_log.specs.Tags.{holder, answer_of, is_out, is_unanswered}
use Rattle.nvme_slots.specs.Pool.{AreApart}
use Rattle.nvme_slots.proofs.Pools.{AreApart-push}
use Rattle.nvme_jobs.specs.declared.dispatched.Dispatched.{Dispatched}
use Rattle.nvme_jobs.specs.Hands.{in_hand}
use Rattle.nvme_jobs.specs.inside.Jobs.{JobsView, with_job, next_job}
use Rattle.nvme_jobs.specs.inside.Standing.{HoldsJobs, HoldsJobsBut}
use Rattle.nvme_jobs.proofs.JobSteps.{jobs-added}
use Rattle.nvme_jobs.proofs.Leaving.{but-none}
use Rattle.nvme_front.specs.inside.Dispatching.{taken_notes, with_jobs, AreDispatched}
use Rattle.nvme_front.specs.inside.Room.{IsTagged, HoldsTags, tags_in}
use Rattle.nvme_front.proofs.SameTags.{same_unanswered}
use Rattle.nvme_front.proofs.TakenCommands.{with-none}

-- the first of some jobs is added, and then the others
jobs-first : (j : JobsView) (d : Dispatched) (ds : List Dispatched) → with_jobs (with_job j d) ds ≡ with_jobs j (d ∷ ds)
jobs-first j d ds =
    let unhanded : (j.hands.unhanded ++ d ∷ []) ++ ds ≡ j.hands.unhanded ++ d ∷ ds = append_assoc j.hands.unhanded (d ∷ []) ds in
    let tickets : j.tickets + 1 + length ds ≡ j.tickets + length (d ∷ ds) = omega arith in
    λ t. record j { hands = record j.hands { unhanded = unhanded t }; tickets = tickets t }

-- ---- jobs
-- the jobs of all are added
pub jobs-taken : (sizes : List ℕ) (past : Past) (notes : Notes) (region : ℕ) (is : List ℕ) (ds : List Dispatched) (j : JobsView) → logged notes ≡ past
    → AreDispatched notes region j.tickets is ds → HoldsJobsBut sizes past j (map (place_at region) is) → HoldsJobs sizes past (with_jobs j ds)
jobs-taken sizes past notes region [] [] j same are h = subst (λ (x : JobsView). HoldsJobs sizes past x) (with-none j) (but-none sizes past j h)
jobs-taken sizes past notes region (i ∷ is) (d ∷ ds) j same are h =
    let its : next_job j d.tag (place_at region i) d.entry ≡ d = λ t. record { ticket = sym are.0 t; tag = d.tag; place = sym are.1 t; entry = d.entry } in
    let added : HoldsJobsBut sizes past (with_job j d) (map (place_at region) is) =
    subst (λ (x : Dispatched). HoldsJobsBut sizes past (with_job j x) (map (place_at region) is)) its
    (jobs-added sizes past j d.tag (place_at region i) d.entry (map (place_at region) is) h (ap (λ (p : Past). entry_at p region i) (sym same) ∙ are.2)) in
    subst (λ (x : JobsView). HoldsJobs sizes past x) (jobs-first j d ds)
    (jobs-taken sizes past (Taken d.tag region i ∷ notes) region is ds (with_job j d) same are.5 added)
jobs-taken sizes past notes region [] (d ∷ ds) j same are h = absurd are
jobs-taken sizes past notes region (i ∷ is) [] j same are h = absurd are

-- ---- tags
-- a command was taken under a tag that stood for none
module _ (notes : Notes) (j : JobsView) (h : HoldsTags notes j) (d : Dispatched) (free : holder notes d.tag ≡ None) (unanswered : answer_of notes d.place.region d.place.index ≡ None) where
  -- the notes then
  abbrev later : Notes
  later = Taken d.tag d.place.region d.place.index ∷ notes

  -- it stands for the command's place
  stands_for : holder later d.tag ≡ Some d.place
  stands_for = ap (λ (b : Bool). if b then Some d.place else holder notes d.tag) (eq-eqb d.tag d.tag refl)

  -- all other tags stand for what they did
  others : (t : ℕ) → d.tag ≢ t → holder later t ≡ holder notes t
  others t other = ap (λ (b : Bool). if b then Some d.place else holder notes t) (ne_eqb d.tag t other)

  others_out : (t : ℕ) → d.tag ≢ t → is_out later t ≡ is_out notes t
  others_out t other = same_unanswered notes later (λ r i. refl) (holder later t) ∙ ap (is_unanswered notes) (others t other)

  -- a tag in hand is another one
  in_hand_other : (x : Dispatched) → IsTagged notes x → d.tag ≢ x.tag
  in_hand_other x tagged same =
      let both : None ≡ Some x.place = sym free ∙ ap (holder notes) same ∙ tagged.held in
      cc both

  now_hand : in_hand (with_job j d).hands ≡ in_hand j.hands ++ d ∷ []
  now_hand = sym (append_assoc j.hands.running j.hands.unhanded (d ∷ []))

  now_tags : tags_in (with_job j d) ≡ tags_in j ++ d.tag ∷ []
  now_tags = ap (map (λ (x : Dispatched). x.tag)) now_hand ∙ map-append (λ (x : Dispatched). x.tag) (in_hand j.hands) (d ∷ [])

  tags-one : HoldsTags later (with_job j d)
  tags-one = record {
    each = All-same (IsTagged later) (in_hand (with_job j d).hands) (in_hand j.hands ++ d ∷ []) now_hand
        (All-append (IsTagged later) (in_hand j.hands) (d ∷ [])
        (λ i x lt.
        let y : Dispatched = get_or (in_hand j.hands) i x in
        let was = h.each i x lt in
        let other = in_hand_other y was in
        record { out = others_out y.tag other ∙ was.out; held = others y.tag other ∙ was.held })
        (All-cons (IsTagged later) d []
        (record { out = ap (is_unanswered later) stands_for ∙ ap (λ (o : Option Answer). is_none o) unanswered; held = stands_for })
        (All-nil (IsTagged later))));
    apart = subst AreApart (sym now_tags) (AreApart-push (tags_in j) d.tag h.apart
        (All-map (λ (y : ℕ). y ≢ d.tag) (λ (x : Dispatched). x.tag) (in_hand j.hands) (λ i x lt same. in_hand_other (get_or (in_hand j.hands) i x) (h.each i x lt) (sym same))));
    all = λ t out. subst (λ (ts : List ℕ). Contains ts t) (sym now_tags) (elim (cases_Bool (d.tag == t)) [
      | inl same ↦ subst (λ (x : ℕ). Contains (tags_in j ++ d.tag ∷ []) x) (eqb-true d.tag t same) (Contains-push (tags_in j) d.tag)
      | inr other ↦
          Contains-append_left (tags_in j) (d.tag ∷ []) t
          (h.all t (sym (others_out t (λ e. let yes = eq-eqb d.tag t e in cc (yes, other))) ∙ out))
    ]);
  }

-- all were taken
pub tags-taken : (notes : Notes) (region ticket : ℕ) (is : List ℕ) (ds : List Dispatched) (j : JobsView) → AreDispatched notes region ticket is ds → HoldsTags notes j
    → HoldsTags (taken_notes ds notes) (with_jobs j ds)
tags-taken notes region ticket [] [] j are h = subst (λ (x : JobsView). HoldsTags notes x) (with-none j) h
tags-taken notes region ticket (i ∷ is) (d ∷ ds) j are h =
    let unanswered : answer_of notes d.place.region d.place.index ≡ None = ap (λ (p : Place). answer_of notes p.region p.index) are.1 ∙ are.4 in
    let one = tags-one notes j h d are.3 unanswered in
    let rest : AreDispatched (Taken d.tag d.place.region d.place.index ∷ notes) region (ticket + 1) is ds =
    subst (λ (p : Place). AreDispatched (Taken d.tag p.region p.index ∷ notes) region (ticket + 1) is ds) (sym are.1) are.5 in
    subst (λ (x : JobsView). HoldsTags (taken_notes (d ∷ ds) notes) x) (jobs-first j d ds)
    (tags-taken (Taken d.tag d.place.region d.place.index ∷ notes) region (ticket + 1) is ds (with_job j d) rest one)
tags-taken notes region ticket [] (d ∷ ds) j are h = absurd are
tags-taken notes region ticket (i ∷ is) [] j are h = absurd are
