-- The state is there.
use Rattle.std.proofs.Common.{◌≡◌, ℕ, ◌<◌, List, [], length, ℤ, Some, None, Option, Result, get_or, ap, sym, refl, ◌∙◌, subst}
use Rattle.std.proofs.lemmas.Option.{slice_get-get_or}
use Rattle.std.specs.List.{slice_get}
use Rattle.std.specs.Option.{ok_or}
use Rattle.record.specs.Rules.{value_there, look_at}
use Rattle.calls.specs.declared.answers.Denial.{Denial}
use Rattle.calls.specs.declared.answers.Denial.TheVariants.{NoSuchVariable}
use Rattle.calls.specs.Published.{published, to_look}
use Rattle.calls.specs.Calls.{found_number, look_in_state}
use Rattle.engine.proofs.engine.Engine.look.Goals as goal

-- what is told of a number, if there is one
told : (o : Option ℤ) → published (to_look (ok_or o NoSuchVariable)) ≡ found_number o
told None = refl
told (Some z) = refl

-- a look at a state that is there
looked : (l : List (List ℤ)) (k x : ℕ) (o : Option ℤ) (r : Result ℤ Denial) → k < length l → o ≡ look_at l k x → r ≡ ok_or o NoSuchVariable → published (to_look r) ≡ look_in_state (slice_get l k) x
looked l k x o r h e f =
    let m = get_or l k [] in
    let s : slice_get l k ≡ Some m = slice_get-get_or l k [] h in
    let v : o ≡ slice_get m x = e ∙ ap (λ (z : Option (List ℤ)). value_there z x) s in
    ap (λ (z : Result ℤ Denial). published (to_look z)) (f ∙ ap (λ (z : Option ℤ). ok_or z NoSuchVariable) v) ∙ told (slice_get m x) ∙ ap (λ (z : Option (List ℤ)). look_in_state z x) (sym s)

pub returns : goal.returns
returns g c =
    looked (g.R.Recorder.states c.args.recorder.now) c.args.state c.args.variable c.look.result c.ok_or.result (subst (λ (n : ℕ). c.args.state < n) c.count.ensures c.if-state-count.false) c.look.ensures c.ok_or.ensures.value
