-- A fetch leaves a loaded front: it is of the least queue that isn't filled, and its entry is the next of its script.
use Rattle.std.proofs.Common.{◌≡◌, ℕ, ◌<◌, ◌≤◌, Bool, true, false, nat_le, List, [], ◌∷◌, ◌++◌, map, length, get_or, Option, Some, refl, sym, ap, ◌∙◌, subst, arith, inl, inr, append_assoc}
use Rattle.std.specs.Prelude.{unwrap_or, if◌then◌else◌}
use mathlib.Core.List.{IsPrefix}
use Rattle.std.proofs.lemmas.List.{append-nil, length-map, length_push}
use Rattle.std.proofs.lemmas.Bool.{cases_lt, le-leb, eq-eqb}
use Rattle.nvme_entry.specs.declared.submission.Sqe.{Sqe}
use Rattle.nvme_log.specs.declared.event.Event.{Event}
use Rattle.nvme_log.specs.declared.event.Event.TheVariants.{Fetch}
use Rattle.nvme_log.specs.Rules.{FrontRules, Past, Each}
use Rattle.nvme_log.specs.Queues.{open_sq, qid_of_region}
use Rattle.nvme_log.specs.Places.{fetched}
use Rattle.nvme_log.specs.Account.{ServedWhileOpen}
use Rattle.nvme_log.specs.Loaded.{without_posts, is_filled, FilledBefore, FetchesLast}
use Rattle.nvme_log.proofs.WithoutPosts.{is_filled-at, qid_of_region-posts}
use Rattle.nvme_log.proofs.LoadedPlaces.{are-counted}
use Rattle.nvme_log.proofs.LoadedRegions.{region-owned}
use Rattle.nvme_log.proofs.LoadedSteps.{unfilled-before}
use Rattle.nvme_front.specs.declared.region.SqRegion.{SqRegion}
use Rattle.nvme_front.specs.declared.state.FrontState.{FrontState}
use Rattle.nvme_front.specs.inside.State.{rules_of, past_of, gets_of, view_of}
use Rattle.nvme_front.specs.inside.Room.{IsConsistent}
use Rattle.nvme_front.specs.inside.Goes.{coming_at, Goes, HasAdmin, IsScanned}
use Rattle.nvme_front.specs.View.{got_in, known_in}
use Rattle.nvme_front.specs.LoadedFront.{FilledBelow, IsLoadedFront, GotWithin}
use Rattle.nvme_front.specs.inside.Loads.{Loads}
use Rattle.nvme_front.proofs.Comes.{coming-set, coming_in-seen}
use Rattle.nvme_front.proofs.States.{look-read, rules-goes, sqs-goes, admin-goes}
use Rattle.nvme_front.proofs.RunningFacts.{IsOpenOn}
use Rattle.nvme_front.proofs.SqEnds.{got_in-set}
use Rattle.nvme_front.proofs.Fetches.{Fetched, fetch_past, fetch_goes, region_there}
use Rattle.nvme_front.proofs.EndsSeen.{accounts_for_ends}
use Rattle.nvme_front.proofs.Loading.{loaded-by, got-begins, scanned-filled}

-- a fetch from a queue that isn't filled comes in turn: none of lower identifiers than the newest fetch's is unfilled
follows : (rules : FrontRules) (scripts : ℕ → List Sqe) (past : Past) (r i q : ℕ) (entry : Sqe) → FilledBelow rules scripts past → qid_of_region past r ≡ Some q
    → is_filled rules scripts past (open_sq past q) ≡ false → FetchesLast past (Fetch r i entry)
follows rules scripts [] r i q entry below owned unfilled = tt
follows rules scripts (Fetch region index other ∷ past) r i q entry below owned unfilled = elim (cases_lt q (unwrap_or (qid_of_region past region) 0)) [
  | inl lower ↦ absurd (let filled = below q lower in let e : true ≡ false = sym filled ∙ unfilled in cc e)
  | inr upper ↦
      subst (λ (o : Option ℕ). nat_le (unwrap_or (qid_of_region past region) 0) (unwrap_or o 0) ≡ true) (sym owned) (le-leb (unwrap_or (qid_of_region past region) 0) q upper)
]
follows rules scripts (e ∷ past) r i q entry below owned unfilled = tt

-- what is known to come was known before, where no more was got than the script has
comes-known : (got got' known known' : List Sqe) (x : Sqe) → got' ≡ got ++ x ∷ [] → (0 < length known → known ≡ x ∷ known') → length got' ≤ length (got ++ known)
    → got' ++ known' ≡ got ++ known
comes-known got got' [] known' x more next within = absurd (omega (arith, within, ap length more, length_push got x, ap length (append-nil got)))
comes-known got got' (y ∷ known) known' x more next within =
    ap (λ (xs : List Sqe). xs ++ known') more ∙ append_assoc got (x ∷ []) known' ∙ ap (λ (xs : List Sqe). got ++ xs) (sym (next (omega arith)))

-- where a command was fetched from an open queue, and all queues of lower identifiers are scanned
module _ (a b : FrontState) (q r : ℕ) (d g : SqRegion) (entry : Sqe) (f : Fetched a b q r d g entry) (kept : IsConsistent a) (admin : HasAdmin a) (o : IsOpenOn (past_of a) q r)
    (kept' : IsConsistent b) (lower : (p : ℕ) → p < q → IsScanned b p) where
  -- its event, and the log with it
  abbrev the_event : Event
  the_event = Fetch r d.fetched entry

  past_is : past_of b ≡ the_event ∷ past_of a
  past_is = fetch_past a b q r d g entry f

  goes : Goes a b
  goes = fetch_goes a b q r d g entry f

  module _ (scripts : ℕ → List Sqe) (within : GotWithin scripts (view_of b)) (h : IsLoadedFront scripts (view_of a)) where
    there : r < length a.sqs.items
    there = region_there a kept admin q r o

    -- what was got of its region
    got_is : got_in (view_of b) r ≡ g.end.got
    got_is = got_in-set a b r g there f.sqs r ∙ ap (λ (t : Bool). if t then g.end.got else got_in (view_of a) r) (eq-eqb r r refl)

    -- its script is what was got and known before
    script_is : coming_at d ≡ scripts r
    script_is =
        sym (look-read coming_at [] a.sqs.items r d there d f.read) ∙ coming_in-seen a.sqs.items r
        ∙ h.scripts_are r (omega (arith, there, length-map a.sqs.items (λ (x : SqRegion). x.end)))

    -- and is so after
    coming_is : coming_at g ≡ coming_at d
    coming_is =
        comes-known d.end.got g.end.got d.end.known g.end.known entry f.got f.next
        (omega (arith, within r, ap length got_is, ap length script_is))

    -- of each region
    scripts_still : (x : ℕ) → x < length (gets_of b.sqs.items) → got_in (view_of b) x ++ known_in (view_of b) x ≡ scripts x
    scripts_still x lt =
        sym (coming_in-seen b.sqs.items x)
        ∙ ap (λ (xs : List (List Sqe)). get_or xs x []) (ap (map coming_at) f.sqs ∙ coming-set a.sqs.items r d g f.read coming_is)
        ∙ coming_in-seen a.sqs.items x
        ∙ h.scripts_are x (omega (arith, lt, sqs-goes a b goes, length-map a.sqs.items (λ (y : SqRegion). y.end), length-map b.sqs.items (λ (y : SqRegion). y.end)))

    admin_b : HasAdmin b
    admin_b = admin-goes a b goes admin

    late_b : b.late ≡ false
    late_b = goes.late ∙ h.not_late

    rules_b : rules_of b ≡ rules_of a
    rules_b = rules-goes a b goes

    -- the region was opened for its queue
    owned : qid_of_region (past_of a) r ≡ Some q
    owned =
        ap (qid_of_region (past_of a)) (sym o.on)
        ∙ region-owned (rules_of a) (past_of a) (accounts_for_ends a kept admin h.not_late).account.effects_at_once q o.queue o.is_open

    -- which wasn't filled
    unfilled : is_filled (rules_of a) scripts (without_posts (past_of a)) (open_sq (without_posts (past_of a)) q) ≡ false
    unfilled =
        let before = (accounts_for_ends a kept admin h.not_late).account in
        let after = accounts_for_ends b kept' admin_b late_b in
        let served : Each (ServedWhileOpen (rules_of a)) (the_event ∷ past_of a) =
        subst (λ (p : Past). Each (ServedWhileOpen (rules_of a)) p) past_is
        (subst (λ (x : FrontRules). Each (ServedWhileOpen x) (past_of b)) rules_b after.account.served_while_open) in
        let begins : IsPrefix (fetched (the_event ∷ past_of a) r) (scripts r) =
        subst (λ (p : Past). IsPrefix (fetched p r) (scripts r)) past_is
        (subst (λ (xs : List Sqe). IsPrefix xs (scripts r)) (sym (after.all_fetched r)) (got-begins (view_of b) scripts scripts_still r)) in
        is_filled-at (rules_of a) scripts (past_of a) q
        ∙ ap (is_filled (rules_of a) scripts (past_of a)) o.is_open
        ∙ unfilled-before (rules_of a) scripts (past_of a) r d.fetched entry
        (are-counted (rules_of a) (past_of a) before.effects_at_once before.observed before.lawful r) served.0 begins o.queue o.on

    -- the queues of lower identifiers are filled after it
    lower_filled : FilledBelow (rules_of a) scripts (without_posts (the_event ∷ past_of a))
    lower_filled = λ p lt.
        let own : qid_of_region (without_posts (past_of a)) r ≡ Some q = qid_of_region-posts (past_of a) r ∙ owned in
        let below : p < q = subst (λ (x : Option ℕ). p < unwrap_or x 0) own lt in
        let filled : is_filled (rules_of b) scripts (past_of b) (open_sq (past_of b) p) ≡ true = scanned-filled b kept' admin_b scripts scripts_still p (lower p below) in
        is_filled-at (rules_of a) scripts (the_event ∷ past_of a) p
        ∙ subst (λ (z : Past). is_filled (rules_of a) scripts z (open_sq z p) ≡ true) past_is
        (subst (λ (x : FrontRules). is_filled x scripts (past_of b) (open_sq (past_of b) p) ≡ true) rules_b filled)

    -- so it is loaded still
    fetch-loaded : IsLoadedFront scripts (view_of b)
    fetch-loaded =
        loaded-by b kept' admin_b late_b scripts scripts_still
        (subst (λ (x : FrontRules). Each (FilledBefore x scripts) (without_posts (past_of b))) (sym rules_b)
        (subst (λ (p : Past). Each (FilledBefore (rules_of a) scripts) (without_posts p)) (sym past_is) (tt, h.so_far.filled_before)))
        (subst (λ (p : Past). Each FetchesLast (without_posts p)) (sym past_is) (
          follows (rules_of a) scripts (without_posts (past_of a)) r d.fetched q entry h.below_filled (qid_of_region-posts (past_of a) r ∙ owned) unfilled,
          h.so_far.fetches_last,
        ))
        (subst (λ (x : FrontRules). FilledBelow x scripts (without_posts (past_of b))) (sym rules_b)
        (subst (λ (p : Past). FilledBelow (rules_of a) scripts (without_posts p)) (sym past_is) lower_filled))

  -- a loaded front stays loaded
  pub fetch-load : Loads a b
  fetch-load = λ scripts within h. fetch-loaded scripts within h
