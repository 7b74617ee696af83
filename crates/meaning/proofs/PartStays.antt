-- A part of a rest stays a part: visits in any order, from a work that lies in a rest one to one, lead to one that does, and never stop.
use Rattle.std.proofs.Common.{ℕ, sym, subst, arith}
use Rattle.meaning.specs.Intervals.{Setting}
use Rattle.meaning.specs.Work.{Work, Outcome}
use Rattle.meaning.specs.Visiting.{SettlesInAnyOrder}
use Rattle.meaning.proofs.PartOf.{NoDoubles, Within, within, PartOf}
use Rattle.meaning.proofs.Grants.{PlacedIn, Lawful}
use Rattle.meaning.proofs.PlacedEffects.{FindsPlaces, finds_full, finds_clash, finds}
use Rattle.meaning.proofs.PlacedVisits.{any_order_finds}
use Rattle.meaning.proofs.RestGrants.{rest_grants, placed_of, part_of}
use Rattle.meaning.proofs.OneToOne.{rest_lawful}

module _ (S T : Setting) (k : ℕ) (φ : ℕ → ℕ) (w u : Work) (H : PartOf S T k φ w u) where
  placed : PlacedIn (rest_grants u) w.next φ w
  placed = placed_of S T k u H.knows H.rest.well_formed φ w H.well_formed H.part H.no_doubles

  law : Lawful S k (rest_grants u)
  law = rest_lawful S T k u H.alike H.knows H.rest H.neat H.roomy

  lies_within : {o : Outcome} → FindsPlaces (rest_grants u) w.next φ o → Within w.next φ u o
  lies_within (finds_full f) = absurd f
  lies_within (finds_clash f) = absurd f
  lies_within (finds {w = v} m ψ l a Y) = within ψ (omega (arith, l, Y.next_is)) a (part_of S T k u H.knows H.rest.well_formed Y) (subst (λ z. NoDoubles u z ψ v) (sym Y.next_is) Y.besides)

  pub part_stays : {o : Outcome} → SettlesInAnyOrder S k w o → Within w.next φ u o
  part_stays s = lies_within (any_order_finds law s placed)
