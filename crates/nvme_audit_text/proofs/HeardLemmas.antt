-- Where no line tells anything of arbitration.
use Rattle.std.proofs.Common.{◌≡◌, ℕ, Bool, true, false, List, [], ◌∷◌, Option, None, Ok, refl, ap, ◌∙◌}
use Rattle.std.specs.Prelude.{Result, Err, is_none, ok_or, if◌then◌else◌}
use Rattle.serde_json.specs.Data.{Data}
use Rattle.nvme_arbiter.specs.History.{ArbitrationEvent}
use Rattle.nvme_audit.specs.declared.event.Event.{Event}
use Rattle.nvme_audit_text.specs.declared.fault.Kind.{Kind}
use Rattle.nvme_audit_text.specs.declared.fault.Kind.TheVariants as kind
use Rattle.nvme_audit_text.specs.declared.fault.LineFault.{LineFault}
use Rattle.nvme_audit_text.specs.declared.fault.LineFault.TheVariants.{NoKind, NotTold, NoMechanism}
use Rattle.nvme_audit_text.specs.declared.views.View.{View}
use Rattle.nvme_audit_text.specs.declared.head.Head.{Head}
use Rattle.nvme_audit_text.specs.Readings.{◌>>=◌, ◌>>◌}
use Rattle.nvme_audit_text.specs.Format.{Heard, Nothing, OfArbitration, arbitration_in, arbitration_through, arbitration_told, told, told_through, tail_in, head_doorbell_in, fetch_in, post_in, kind_in, data_of, object_in, said_of, said_in, said_of_line, arbitration_of_line}
use Rattle.nvme_audit_text.specs.Picks.{joined, history_of}

-- what is read tells nothing of arbitration
abbrev IsSilent : Result Heard LineFault → Type 0
IsSilent r = arbitration_told r ≡ None

told_silent : (r : Result Event LineFault) → IsSilent (told r)
told_silent (Ok e) = refl
told_silent (Err f) = refl

if_silent : (b : Bool) (x y : Result Heard LineFault) → IsSilent x → IsSilent y → IsSilent (if b then x else y)
if_silent true x y p q = p
if_silent false x y p q = q

through_silent : (view : View) (r : Result ArbitrationEvent LineFault) → view.picks ≡ false → IsSilent (told_through view r)
through_silent view (Ok e) out = let h : arbitration_through view e ≡ Nothing = ap (λ (b : Bool). if b then OfArbitration e else Nothing) out in ap (λ (s : Heard). arbitration_told (Ok s)) h
through_silent view (Err f) out = refl

then_silent : {A : Type 0} (r : Result A LineFault) (f : A → Result Heard LineFault) → ((x : A) → IsSilent (f x)) → IsSilent (r >>= f)
then_silent (Ok x) f h = h x
then_silent (Err e) f h = refl

after_silent : {A : Type 0} (r : Result A LineFault) (next : Result Heard LineFault) → IsSilent next → IsSilent (r >> next)
after_silent (Ok x) next h = h
after_silent (Err e) next h = refl

-- a line of each kind, where those of arbitration are silent
kinds_silent : (view : View) (head : Head) (d : Data) → IsSilent (said_of view head kind.Pick d) → IsSilent (said_of view head kind.Set d) → (k : Kind) → IsSilent (said_of view head k d)
unfolding said_of
kinds_silent view head d p s kind.Tail = told_silent (tail_in d)
kinds_silent view head d p s kind.Head = told_silent (head_doorbell_in d)
kinds_silent view head d p s kind.Fetch = told_silent (fetch_in view d)
kinds_silent view head d p s kind.Post = if_silent head.has_posts _ _ (if_silent head.start.tells.posts _ _ (told_silent (post_in view kind.Post d)) refl) refl
kinds_silent view head d p s kind.Complete = if_silent head.start.tells.posts _ _ refl (told_silent (post_in view kind.Complete d))
kinds_silent view head d p s kind.Start = refl
kinds_silent view head d p s kind.Done = refl
kinds_silent view head d p s kind.Pick = p
kinds_silent view head d p s kind.Set = s

line_silent : (view : View) (head : Head) (line : List ℕ) → ((k : Kind) (d : Data) → IsSilent (said_of view head k d)) → arbitration_of_line view head line ≡ None
unfolding said_of_line said_in
line_silent view head line h = then_silent (data_of line) _ (λ d. after_silent (object_in d) _ (then_silent (ok_or (kind_in d) NoKind) _ (λ k. h k d)))

lines_silent : (view : View) (head : Head) (lines : List (ℕ × List ℕ)) → ((k : Kind) (d : Data) → IsSilent (said_of view head k d)) → history_of view head lines ≡ []
lines_silent view head [] h = refl
lines_silent view head (line ∷ lines) h = ap (λ (o : Option ArbitrationEvent). joined o (history_of view head lines)) (line_silent view head line.1 h) ∙ lines_silent view head lines h

-- ---- the two cases
none_pick : (view : View) (head : Head) (d : Data) → head.arbitration ≡ None → IsSilent (said_of view head kind.Pick d)
unfolding said_of
none_pick view head d out =
    let h : is_none head.arbitration ≡ true = ap is_none out in
    ap (λ (b : Bool). arbitration_told (if b then Err (NoMechanism kind.Pick) else (if head.has_picks then told_through view (arbitration_in d) else Err (NotTold kind.Pick)))) h

none_set : (view : View) (head : Head) (d : Data) → head.arbitration ≡ None → IsSilent (said_of view head kind.Set d)
unfolding said_of
none_set view head d out =
    let h : is_none head.arbitration ≡ true = ap is_none out in
    ap (λ (b : Bool). arbitration_told (if b then Err (NoMechanism kind.Set) else told_through view (arbitration_in d))) h

pub no_mechanism : (view : View) (head : Head) (lines : List (ℕ × List ℕ)) → head.arbitration ≡ None → history_of view head lines ≡ []
no_mechanism view head lines out = lines_silent view head lines (λ k d. kinds_silent view head d (none_pick view head d out) (none_set view head d out) k)

unseen_pick : (view : View) (head : Head) (d : Data) → view.picks ≡ false → IsSilent (said_of view head kind.Pick d)
unfolding said_of
unseen_pick view head d out = if_silent (is_none head.arbitration) _ _ refl (if_silent head.has_picks _ _ (through_silent view (arbitration_in d) out) refl)

unseen_set : (view : View) (head : Head) (d : Data) → view.picks ≡ false → IsSilent (said_of view head kind.Set d)
unfolding said_of
unseen_set view head d out = if_silent (is_none head.arbitration) _ _ refl (through_silent view (arbitration_in d) out)

pub no_picks : (view : View) (head : Head) (lines : List (ℕ × List ℕ)) → view.picks ≡ false → history_of view head lines ≡ []
no_picks view head lines out = lines_silent view head lines (λ k d. kinds_silent view head d (unseen_pick view head d out) (unseen_set view head d out) k)
