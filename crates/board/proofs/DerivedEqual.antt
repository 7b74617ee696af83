-- The derived comparisons of duties, ends and openings answer what the tests of the work say.
use Rattle.std.proofs.Common.{◌≡◌, ℕ, Bool, true, false, not, ◌&&◌, ◌||◌, eqb, List, [], ◌∷◌, map, ℤ, Some, None, Option, sym, refl, ap, ◌∙◌, subst}
use Rattle.std.specs.List.{list_any, list_all}
use Rattle.std.specs.Option.{option_eq}
use Rattle.std.specs.Ordering.{int_eq}
use Rattle.std.proofs.lemmas.Bool.Decides.{same_from_decides, Decides-int_eq}
use Rattle.value.specs.contracts.end.EndPartialEq.TheImpl as EndEq
use Rattle.value.specs.declared.end.End.{End}
use Rattle.value.specs.declared.end.End.TheVariants.{Unknown, On, Last}
use Rattle.value.specs.Values.{equal_numbers}
use Rattle.meaning.specs.contracts.duties.DutyPartialEq.TheImpl as DutyEq
use Rattle.meaning.specs.contracts.duties.OpeningPartialEq.TheImpl as OpeningEq
use Rattle.meaning.specs.declared.duties.Duty.{Duty}
use Rattle.meaning.specs.declared.duties.Opening.{Opening}
use Rattle.meaning.specs.WellFormed.{◌∈◌, here, there}
use Rattle.meaning.specs.Runs.{is_ended, all_ended}
use Rattle.meaning.specs.Work.{same_number, same_duty, same_end, same_opening, opened_by, has_opened}
use Rattle.meaning.proofs.Tests.{same_true, same-itself}
use Rattle.board.specs.declared.row.Row.{Row}
use Rattle.board.specs.Store.{span_of}

number_alike : (a b : Option ℤ) → option_eq int_eq a b ≡ same_number a b
number_alike None None = refl
number_alike None (Some v) = refl
number_alike (Some u) None = refl
number_alike (Some u) (Some v) = same_from_decides (int_eq u v) (equal_numbers u v) (Decides-int_eq u v) (same_true u v, λ p. subst (λ z. equal_numbers u z ≡ true) p (same-itself u))

later_turned : (a b c : Bool) → (a && (b && c)) ≡ (a && (c && b))
later_turned false b c = refl
later_turned true false false = refl
later_turned true false true = refl
later_turned true true false = refl
later_turned true true true = refl

pub duty_alike : (a b : Duty) → DutyEq.eq-value.it a b ≡ same_duty a b
duty_alike a b =
    ap (λ z. eqb a.statement b.statement && (eqb a.span b.span && z)) (number_alike a.number b.number)
    ∙ later_turned (eqb a.statement b.statement) (eqb a.span b.span) (same_number a.number b.number)

end_alike : (a b : End) → EndEq.eq-value.it a b ≡ same_end a b
end_alike Unknown Unknown = refl
end_alike Unknown On = refl
end_alike Unknown Last = refl
end_alike On Unknown = refl
end_alike On On = refl
end_alike On Last = refl
end_alike Last Unknown = refl
end_alike Last On = refl
end_alike Last Last = refl

opening_alike : (g h : Opening) → OpeningEq.eq-value.it g h ≡ same_opening g h
opening_alike g h = λ i. eqb g.by h.by && (eqb g.body h.body && (end_alike g.starts h.starts i && duty_alike g.follower h.follower i))

opened_alike : (g : Opening) (o : Option Opening) → option_eq OpeningEq.eq-value.it (Some g) o ≡ opened_by g o
opened_alike g None = refl
opened_alike g (Some h) = opening_alike g h

-- a row whose span was opened so in this state
abbrev pub opened_row : Opening → Row → Bool
opened_row g r = r.span.fresh && option_eq OpeningEq.eq-value.it (Some g) r.span.opening

pub opened_rows : (g : Opening) (l : List Row) → list_any (opened_row g) l ≡ has_opened g (map span_of l)
opened_rows g [] = refl
opened_rows g (r ∷ l) = λ i. (r.span.fresh && opened_alike g r.span.opening i) || opened_rows g l i

-- a row whose end is known
abbrev pub ended_row : Row → Bool
ended_row r = not (EndEq.eq-value.it r.end Unknown)

ended_alike : (e : End) → not (EndEq.eq-value.it e Unknown) ≡ is_ended e
ended_alike Unknown = refl
ended_alike On = refl
ended_alike Last = refl

pub ended_rows : (f : ℕ → End) (l : List Row) → ((r : Row) → r ∈ l → f r.span.serial ≡ r.end) → list_all ended_row l ≡ all_ended f (map span_of l)
ended_rows f [] h = refl
ended_rows f (r ∷ l) h = λ i. (ended_alike r.end ∙ ap is_ended (sym (h r (here refl)))) i && ended_rows f l (λ x q. h x (there q)) i
