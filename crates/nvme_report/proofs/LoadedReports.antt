-- The report of a loaded run is one function of its rules, its scripts, how many hosts it has and its log without posts.
use Rattle.std.proofs.Common.{◌≡◌, ℕ, zero, suc, ◌+◌, ◌<◌, ◌≤◌, ◌==◌, Bool, true, if◌then◌else◌, List, [], ◌∷◌, ◌++◌, length, take, reverse, get_or, Option, Some, None, Vec, refl, sym, ap, ◌∙◌, subst, arith, length-append, append_assoc}
use Rattle.std.specs.Prelude.{codes, decimal, slice_get}
use Rattle.std.specs.List.{All, concat, flat_map}
use Rattle.std.specs.Global.{Global}
use Rattle.std.proofs.lemmas.List.{append-nil, reverse-append, reverse-reverse, get_or-map, length-take-le}
use Rattle.std.proofs.lemmas.List.Concat.{flat_map-append}
use Rattle.std.proofs.lemmas.Option.{none-some}
use Rattle.nvme_entry.specs.Status.{StatusCode}
use Rattle.nvme_entry.specs.declared.submission.Sqe.{Sqe}
use Rattle.nvme_entry.specs.declared.completion.Cqe.{Cqe}
use Rattle.nvme_log.specs.declared.event.Event.{Event}
use Rattle.nvme_log.specs.declared.event.Event.TheVariants.{Abort, Post}
use Rattle.nvme_log.specs.Rules.{Past, FrontRules, Each, upto}
use Rattle.nvme_log.specs.Places.{fetched, picked, places, entry_at}
use Rattle.nvme_log.specs.Completions.{posts_of, posted_to, own_status, own_dw0}
use Rattle.nvme_log.specs.Effects.{EffectsAtOnce}
use Rattle.nvme_log.specs.Account.{PostsOwn, IsWholeAccount}
use Rattle.nvme_log.specs.Laws.{HasOneCompletion}
use Rattle.nvme_log.specs.Loaded.{without_posts}
use Rattle.nvme_log.proofs.Posts.{whole_answers}
use Rattle.nvme_log.proofs.Prefixes.{fetched-after, Each-after}
use Rattle.nvme_log.proofs.WithoutPosts.{fetched-posts}
use Rattle.nvme_log.proofs.PostsApart.{picks-posts, entry-posts, own_status-posts, own_dw0-posts}
use Rattle.nvme_log.proofs.OwnStays.{StaysOwn, own-later}
use Rattle.nvme_log.proofs.PostCounts.{places_to, posted-places}
use Rattle.nvme_front.specs.declared.settled.Sent.{Sent}
use Rattle.nvme_front.specs.declared.settled.Settled.{Settled}
use Rattle.nvme_front.specs.Hosts.{sent_at, collected_at}
use Rattle.nvme_front.specs.Settles.{settled_past}
use Rattle.nvme_lane.specs.declared.mode.Mode.TheVariants.{Loaded}
use Rattle.nvme_output.specs.Pieces.{hex_byte, hex_dword}
use Rattle.nvme_report.specs.Report.{aborts_of, completion_in, completions_of, line, pick_line, sq_line, cq_line_of, cq_line, cmd_line, numbered, mode_line, picks_text, submissions_text, collected_text, completions_text, report_text}
use Rattle.nvme_report.specs.Laws.{script_at, IsLoadedRun, ReportsAreOne}
use Rattle.nvme_report.proofs.Completions.{completion_is, completions_are_posts, one_line}

-- ---- the lines of commands
-- the line of a place with a status and a Dword 0
abbrev told_line : ℕ → ℕ → StatusCode → ℕ → List ℕ
told_line r i status dw0 =
    line (codes "cmd " ∷ decimal r ∷ codes "." ∷ decimal i ∷ codes " " ∷ decimal status.sct ∷ codes "/" ∷ hex_byte status.sc
    ∷ codes " " ∷ hex_dword dw0 ∷ [])

-- the line of a place with an entry, by what a log says of it
abbrev place_line : FrontRules → Past → ℕ → ℕ → Option Sqe → List ℕ
place_line rules past r i None = []
place_line rules past r i (Some entry) = told_line r i (own_status rules past r i entry) (own_dw0 rules past r i entry)

-- the lines of the fetched places of a region, by what a log says of them
abbrev place_lines : FrontRules → Past → ℕ → List ℕ
place_lines rules past r = flat_map (λ (i : ℕ). place_line rules past r i (entry_at past r i)) (places past r)

-- a list of at most one that has one in the middle has no other
one-middle : {A : Type 0} (xs ys : List A) (x : A) → length (xs ++ x ∷ ys) ≤ 1 → xs ++ x ∷ ys ≡ x ∷ []
one-middle [] [] x l = refl
one-middle [] (y ∷ ys) x l = absurd (omega (arith, l))
one-middle (z ∷ xs) ys x l = absurd (omega (arith, l, length-append xs (x ∷ ys)))

-- the completions of a place in a log that posts one of it
one-completion : (later before : Past) (c r i : ℕ) (cqe : Cqe) → posts_of (later ++ Post c r i cqe ∷ before) r i ≡ 1
    → completions_of (reverse (later ++ Post c r i cqe ∷ before)) r i ≡ cqe ∷ []
one-completion later before c r i cqe once =
    let post : Event = Post c r i cqe in
    let past : Past = later ++ post ∷ before in
    let prefix : List Cqe = completions_of (reverse before) r i in
    let back : List Cqe = completions_of (reverse later) r i in
    let order : reverse past ≡ (reverse before ++ post ∷ []) ++ reverse later =
    reverse-append later (post ∷ before) ∙ ap (λ (z : List Event). z ++ reverse later) (reverse-append (post ∷ []) before) in
    let own : completions_of (post ∷ []) r i ≡ cqe ∷ [] = ap (λ (z : List Cqe). z ++ []) (completion_is r i c r i cqe refl refl) in
    let split : completions_of (reverse past) r i ≡ prefix ++ cqe ∷ back =
    ap (λ (z : List Event). completions_of z r i) order
    ∙ flat_map-append (completion_in r i) (reverse before ++ post ∷ []) (reverse later)
    ∙ ap (λ (z : List Cqe). z ++ back) (flat_map-append (completion_in r i) (reverse before) (post ∷ []) ∙ ap (λ (z : List Cqe). prefix ++ z) own)
    ∙ append_assoc prefix (cqe ∷ []) back in
    let few : length (completions_of (reverse past) r i) ≡ 1 = completions_are_posts (reverse past) r i ∙ ap (λ (z : Past). posts_of z r i) (reverse-reverse past) ∙ once in
    split ∙ one-middle prefix back cqe (omega (arith, few, ap length split))

-- what stands in the prefix of a list stands in it
in-prefix : {A : Type 0} (xs ys : List A) (i : ℕ) (x : A) → slice_get xs i ≡ Some x → slice_get (xs ++ ys) i ≡ Some x
in-prefix [] ys i x h = absurd (none-some x h)
in-prefix (y ∷ xs) ys zero x h = h
in-prefix (y ∷ xs) ys (suc i) x h = in-prefix xs ys i x h

-- texts that are equal below n are together equal
texts-below : (f g : ℕ → List ℕ) (n : ℕ) → ((i : ℕ) → i < n → f i ≡ g i) → flat_map f (upto n) ≡ flat_map g (upto n)
texts-below f g zero h = refl
texts-below f g (suc n) h =
    flat_map-append f (upto n) (n ∷ [])
    ∙ (λ t. texts-below f g n (λ i lt. h i (omega (arith, lt))) t ++ (h n (omega arith) t ++ []))
    ∙ sym (flat_map-append g (upto n) (n ∷ []))

-- in a whole account
module _ (rules : FrontRules) (loaded : Bool) (scripts sent : ℕ → List Sqe) (past : Past) (collected : ℕ → List Cqe)
    (h : IsWholeAccount rules loaded scripts sent past collected) where
  -- the lines of a fetched place are what the log without posts says of it
  place-text : (r i : ℕ) → i < length (fetched past r)
      → flat_map (cmd_line r i) (completions_of (reverse past) r i) ≡ place_line rules (without_posts past) r i (entry_at (without_posts past) r i)
  place-text r i lt =
      let it : HasOneCompletion rules past collected r i = (whole_answers rules loaded scripts sent past collected h).one_completion r i lt in
      let stands : Past = it.later ++ Post it.region r i it.cqe ∷ it.before in
      let entry : Sqe = it.own.entry in
      let effects : Each (EffectsAtOnce rules) stands = subst (Each (EffectsAtOnce rules)) (sym it.stands) h.account.effects_at_once in
      let own : PostsOwn rules it.before (Post it.region r i it.cqe) =
      (Each-after (PostsOwn rules) it.later (Post it.region r i it.cqe ∷ it.before) (subst (Each (PostsOwn rules)) (sym it.stands) h.account.posts_own)).0 in
      let one : completions_of (reverse past) r i ≡ it.cqe ∷ [] =
      ap (λ (z : Past). completions_of (reverse z) r i) (sym it.stands)
      ∙ one-completion it.later it.before it.region r i it.cqe (ap (λ (z : Past). posts_of z r i) it.stands ∙ it.only) in
      let stays : StaysOwn rules it.before stands r i entry = own-later rules it.later it.before it.region r i it.cqe effects own entry in
      let status : it.cqe.status ≡ own_status rules (without_posts past) r i entry =
      it.own.status ∙ sym stays.status ∙ ap (λ (z : Past). own_status rules z r i entry) it.stands ∙ sym (own_status-posts rules past r i entry) in
      let dw0 : it.cqe.dw0 ≡ own_dw0 rules (without_posts past) r i entry =
      it.own.dw0 ∙ sym stays.dw0 ∙ ap (λ (z : Past). own_dw0 rules z r i entry) it.stands ∙ sym (own_dw0-posts rules past r i entry h.account.effects_at_once) in
      let more = fetched-after it.later (Post it.region r i it.cqe ∷ it.before) r in
      let there : entry_at stands r i ≡ Some entry = ap (λ (z : List Sqe). slice_get z i) (sym more.1) ∙ in-prefix (fetched it.before r) more.0 i entry it.own.is_there in
      let now : entry_at (without_posts past) r i ≡ Some entry = entry-posts past r i ∙ ap (λ (z : Past). entry_at z r i) (sym it.stands) ∙ there in
      one_line (cmd_line r i) (reverse past) r i it.cqe one
      ∙ (λ t. told_line r i (status t) (dw0 t))
      ∙ sym (ap (place_line rules (without_posts past) r i) now)

  -- so are those of a region
  region-text : (r : ℕ) → flat_map (λ (i : ℕ). flat_map (cmd_line r i) (completions_of (reverse past) r i)) (places past r) ≡ place_lines rules (without_posts past) r
  region-text r =
      texts-below (λ (i : ℕ). flat_map (cmd_line r i) (completions_of (reverse past) r i))
      (λ (i : ℕ). place_line rules (without_posts past) r i (entry_at (without_posts past) r i)) (length (fetched past r)) (place-text r)
      ∙ ap (λ (xs : List Sqe). flat_map (λ (i : ℕ). place_line rules (without_posts past) r i (entry_at (without_posts past) r i)) (upto (length xs)))
      (sym (fetched-posts past r))

-- ---- the lines of picks
-- an event more
pick-more : (e : Event) (past : Past) → flat_map pick_line (reverse (e ∷ past)) ≡ flat_map pick_line (reverse past) ++ flat_map pick_line (e ∷ [])
pick-more e past = ap (λ (z : List Event). flat_map pick_line z) (reverse-append (e ∷ []) past) ∙ flat_map-append pick_line (reverse past) (e ∷ [])

-- the lines of the picks are the same without posts
pick-text : (past : Past) → flat_map pick_line (reverse past) ≡ flat_map pick_line (reverse (without_posts past))
pick-text [] = refl
pick-text (Post c r i cqe ∷ past) = pick-more (Post c r i cqe) past ∙ append-nil (flat_map pick_line (reverse past)) ∙ pick-text past
pick-text (e ∷ past) =
    pick-more e past ∙ ap (λ (z : List ℕ). z ++ flat_map pick_line (e ∷ [])) (pick-text past) ∙ sym (pick-more e (without_posts past))

-- ---- numbered lines
-- the texts of k numbers from n on
abbrev on_from : (ℕ → List ℕ) → ℕ → ℕ → List ℕ
on_from f n zero = []
on_from f n (suc k) = f n ++ on_from f (n + 1) k

-- numbered texts that are told by the numbers alone
numbered-on : {A : Type 0} (text : ℕ → A → List ℕ) (f : ℕ → List ℕ) (n : ℕ) (xs : List A)
    → ((i : ℕ) (d : A) → i < length xs → text (n + i) (get_or xs i d) ≡ f (n + i)) → numbered text n xs ≡ on_from f n (length xs)
numbered-on text f n [] h = refl
numbered-on text f n (x ∷ xs) h =
    let first : text n x ≡ f n = subst (λ (z : ℕ). text z x ≡ f z) (omega arith) (h 0 x (omega arith)) in
    let rest = numbered-on text f (n + 1) xs (λ i d lt. subst (λ (z : ℕ). text z (get_or xs i d) ≡ f z) (omega arith) (h (suc i) d (omega (arith, lt)))) in
    λ t. first t ++ rest t

-- ---- the lines of submission regions
-- how many Aborts name a place of a region is the same without posts
aborts_of-posts : (past : Past) (r : ℕ) → aborts_of (without_posts past) r ≡ aborts_of past r
aborts_of-posts [] r = refl
aborts_of-posts (Abort region index ∷ past) r = ap (λ (n : ℕ). if region == r then n + 1 else n) (aborts_of-posts past r)
aborts_of-posts (e ∷ past) r = aborts_of-posts past r

-- the line of a submission region whose script was submitted whole
abbrev sq_text : (ℕ → List Sqe) → Past → ℕ → List ℕ
sq_text scripts past r =
    line (codes "sq " ∷ decimal r ∷ codes " script " ∷ decimal (length (scripts r)) ∷ codes " submitted " ∷ decimal (length (scripts r))
    ∷ codes " fetched " ∷ decimal (length (fetched past r)) ∷ codes " picked " ∷ decimal (picked past r)
    ∷ codes " aborted " ∷ decimal (aborts_of past r) ∷ [])

sq-is : (scripts : ℕ → List Sqe) (past : Past) (sent : List Sent) → ((r : ℕ) → script_at sent r ≡ scripts r) → ((r : ℕ) → sent_at sent r ≡ scripts r)
    → All (λ (s : Sent). s.count ≤ length s.script.items) sent → (r : ℕ) (d : Sent) → r < length sent → sq_line past r (get_or sent r d) ≡ sq_text scripts (without_posts past) r
sq-is scripts past sent hosts whole counts r d lt =
    let s : Sent = get_or sent r d in
    let script : s.script.items ≡ scripts r = sym (get_or-map (λ (x : Sent). x.script.items) sent r d [] lt) ∙ hosts r in
    let submitted : take s.count s.script.items ≡ scripts r = sym (get_or-map (λ (x : Sent). take x.count x.script.items) sent r d [] lt) ∙ whole r in
    let count : s.count ≡ length (scripts r) = sym (length-take-le s.count s.script.items (counts r d lt)) ∙ ap length submitted in
    let got : fetched past r ≡ fetched (without_posts past) r = sym (fetched-posts past r) in
    let taken : picked past r ≡ picked (without_posts past) r = sym (picks-posts past r) in
    let gone : aborts_of past r ≡ aborts_of (without_posts past) r = sym (aborts_of-posts past r) in
    λ t. line (codes "sq " ∷ decimal r ∷ codes " script " ∷ decimal (length (script t)) ∷ codes " submitted " ∷ decimal (count t)
    ∷ codes " fetched " ∷ decimal (length (got t)) ∷ codes " picked " ∷ decimal (taken t)
    ∷ codes " aborted " ∷ decimal (gone t) ∷ [])

-- ---- the whole report
-- the report of a loaded run with n submission and m completion hosts, by its log without posts
abbrev loaded_text : FrontRules → (ℕ → List Sqe) → ℕ → ℕ → Past → List ℕ
loaded_text rules scripts n m past =
    concat (mode_line Loaded ∷ flat_map pick_line (reverse past) ∷ on_from (sq_text scripts past) 0 n
    ∷ on_from (λ (c : ℕ). cq_line_of c (places_to past c)) 0 m ∷ flat_map (place_lines rules past) (upto n) ∷ codes "end\n" ∷ [])

report-is : (rules : FrontRules) (scripts : ℕ → List Sqe) (s : Settled) → IsLoadedRun rules scripts s
    → report_text Loaded s ≡ loaded_text rules scripts (length s.sent.items) (length s.collected.items) (without_posts (settled_past s))
report-is rules scripts s h =
    let past : Past = settled_past s in
    let log : s.log.items ≡ reverse past = sym (reverse-reverse s.log.items) in
    let sent : ℕ → List Sqe = sent_at s.sent.items in
    let collected : ℕ → List Cqe = collected_at s.collected.items in
    let picks : picks_text s ≡ flat_map pick_line (reverse (without_posts past)) = ap (λ (z : List Event). flat_map pick_line z) log ∙ pick-text past in
    let submissions : submissions_text s ≡ on_from (sq_text scripts (without_posts past)) 0 (length s.sent.items) =
    numbered-on (sq_line past) (sq_text scripts (without_posts past)) 0 s.sent.items
    (λ r d lt. subst (λ (z : ℕ). sq_line past z (get_or s.sent.items r d) ≡ sq_text scripts (without_posts past) z) (omega arith)
    (sq-is scripts past s.sent.items h.hosts (h.account.loaded_whole refl) h.counts r d lt)) in
    let collections : collected_text s ≡ on_from (λ (c : ℕ). cq_line_of c (places_to (without_posts past) c)) 0 (length s.collected.items) =
    numbered-on cq_line (λ (c : ℕ). cq_line_of c (places_to (without_posts past) c)) 0 s.collected.items
    (λ c d lt. let own : (get_or s.collected.items c d).items ≡ posted_to past c =
    sym (get_or-map (λ (v : Vec Cqe Global). v.items) s.collected.items c d [] lt) ∙ h.account.all_collected c in
    subst (λ (z : ℕ). cq_line z (get_or s.collected.items c d) ≡ cq_line_of z (places_to (without_posts past) z)) (omega arith)
    (ap (cq_line_of c) (ap length own ∙ posted-places rules true scripts sent past collected h.account c))) in
    let completions : completions_text s ≡ flat_map (place_lines rules (without_posts past)) (upto (length s.sent.items)) =
    (λ t. flat_map (λ (r : ℕ). flat_map (λ (i : ℕ). flat_map (cmd_line r i) (completions_of (log t) r i)) (places past r)) (upto (length s.sent.items)))
    ∙ (λ t. flat_map (λ (r : ℕ). region-text rules true scripts sent past collected h.account r t) (upto (length s.sent.items))) in
    λ t. concat (mode_line Loaded ∷ picks t ∷ submissions t ∷ collections t ∷ completions t ∷ codes "end\n" ∷ [])

-- so the reports of alike runs are one
pub reports_are_one : ReportsAreOne
reports_are_one rules scripts one other h =
    report-is rules scripts one h.one_run
    ∙ (λ t. loaded_text rules scripts (h.submitters t) (h.collectors t) (h.logs t))
    ∙ sym (report-is rules scripts other h.other_run)
