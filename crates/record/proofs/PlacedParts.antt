-- Parts of a text that are written to their places. Assumes nothing.
use Rattle.std.proofs.Common.{◌≡◌, ℕ, ◌+◌, ◌-◌, ◌<◌, ◌≤◌, List, [], ◌++◌, length, get_or, take, drop, refl, sym, ap, ◌∙◌, append_assoc, length-append, arith}
use Rattle.std.proofs.lemmas.List.{append-nil, drop-drop, get_or-take, get_or-drop, length-take-le, get_or_append_left}
use borrow.Rule.Slice.PartMut.{put_mid}
use Rattle.std.proofs.lemmas.Slice.{take-put_mid, drop-put_mid}
use Rattle.record.specs.Placing.{Placed}

-- nothing is written
pub placed_none : (p : ℕ) (m : List ℕ) → Placed [] p m p m
placed_none p m = record { end = omega arith; front = sym (append-nil (take p m)); rest = refl }

-- a part is copied over as many bytes
pub placed_copy : (part copy : List ℕ) (p k : ℕ) (m : List ℕ) → copy ≡ part → p + length part ≤ length m → k ≡ length part → Placed part p m (p + length part) (put_mid p k m copy)
placed_copy part copy p k m same h e =
    let l = ap length same in
    record {
      end = refl;
      front = take-put_mid p k m copy (p + length part) (omega arith) (omega arith) ∙ ap (λ (y : List ℕ). take p m ++ y) same;
      rest = drop-put_mid p k m copy (p + length part) (omega arith) (omega arith) (omega arith);
    }

-- a part, and then another behind it
pub placed_then : (s t : List ℕ) (p q r : ℕ) (m n o : List ℕ) → Placed s p m q n → Placed t q n r o → Placed (s ++ t) p m r o
placed_then s t p q r m n o a b =
    let l = length-append s t in
    let d : q + length t ≡ r = sym b.end in
    record {
      end = omega (arith, a.end, b.end, l);
      front = b.front ∙ ap (λ (y : List ℕ). y ++ t) a.front ∙ append_assoc (take p m) s t;
      rest = b.rest ∙ ap (λ (y : ℕ). drop y n) (sym d) ∙ sym (drop-drop (length t) q n) ∙ ap (drop (length t)) a.rest ∙ drop-drop (length t) q m ∙ ap (λ (y : ℕ). drop y m) d;
    }

-- the same part under another name
pub placed_as : (s t : List ℕ) (p q : ℕ) (m n : List ℕ) → s ≡ t → Placed s p m q n → Placed t p m q n
placed_as s t p q m n e a = record {
  end = a.end ∙ ap (λ (y : List ℕ). p + length y) e;
  front = a.front ∙ ap (λ (y : List ℕ). take p m ++ y) e;
  rest = a.rest;
}

-- a byte ahead of the part stays
pub byte_ahead : (t m n : List ℕ) (p q k : ℕ) → Placed t p m q n → k < p → p ≤ length m → get_or n k 0 ≡ get_or m k 0
byte_ahead t m n p q k a h l =
    let f = length-take-le p m l in
    sym (get_or-take q n k 0 (omega (arith, a.end)))
    ∙ ap (λ (y : List ℕ). get_or y k 0) a.front
    ∙ get_or_append_left (take p m) t 0 k (omega arith)
    ∙ get_or-take p m k 0 h

-- a byte behind the part stays
pub byte_behind : (t m n : List ℕ) (p q k : ℕ) → Placed t p m q n → q ≤ k → get_or n k 0 ≡ get_or m k 0
byte_behind t m n p q k a h =
    let j : q + (k - q) ≡ k = omega arith in
    ap (λ (y : ℕ). get_or n y 0) (sym j) ∙ sym (get_or-drop q n (k - q) 0) ∙ ap (λ (y : List ℕ). get_or y (k - q) 0) a.rest ∙ get_or-drop q m (k - q) 0 ∙ ap (λ (y : ℕ). get_or m y 0) j
