-- What is filled with zeros has zeros at each place, and past the end.
use Rattle.std.proofs.Common.{◌≡◌, ℕ, zero, suc, List, length, get_or, replicate, refl, ap, ◌∙◌}
use Rattle.settling.proofs.skips.clear.Goals as goal

zeros : (n k : ℕ) → get_or {A = ℕ} (replicate n 0) k 0 ≡ 0
zeros zero k = refl
zeros (suc n) zero = refl
zeros (suc n) (suc k) = zeros n k

pub returns : goal.returns
returns c = λ k. ap (λ (l : List ℕ). get_or l k 0) (c.fill.ensures.after (λ y h. h)) ∙ zeros (length c.args.skips.now) k
