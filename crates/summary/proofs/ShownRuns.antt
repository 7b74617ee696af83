-- What comes of a text, by what its calls promise. Assumes nothing.
use Rattle.std.proofs.Common.{◌≡◌, ℕ, ◌+◌, ◌-◌, ◌<◌, ◌≤◌, Bool, true, false, leb, if◌then◌else◌, List, [], ◌∷◌, ◌++◌, length, length-append, get_or, take, drop, ℤ, Ok, Err, Option, Result, sym, refl, ap, ◌∙◌, subst, arith}
use Rattle.std.proofs.lemmas.List.{take_at, drop_at, ext_get_or, get_or-drop, length-drop, length-take}
use Rattle.sheet.specs.Content.{Content}
use Rattle.load.specs.declared.refusals.Refusal.{Refusal}
use Rattle.load.specs.Parsing.{parse_sheet}
use Rattle.record.specs.StatesText.{states_text, states_text_from}
use Rattle.calls.specs.declared.answers.NotLoaded.{NotLoaded as Unloaded}
use Rattle.calls.specs.declared.answers.NotLoaded.TheVariants.{Refused}
use Rattle.calls.specs.Standing.{Standing, idle, running, ended, Meant, Recording, blank}
use Rattle.calls.specs.Published.{PublishedAnswer, numbered, line, word, done, published_not_loaded, text_number, text_line, text_word}
use Rattle.calls.specs.Calls.{LoadsBy, LoadsIn, Loads, AbandonsIn, Abandons}
use Rattle.summary.specs.declared.closing.Closing.{Closing}
use Rattle.summary.specs.ClosingText.{closing_text, not_loaded_lines}
use Rattle.summary.specs.Shown.{RunOrRefusal, WritesFront, InText, Printed}

-- no run is open
abbrev pub Closed : Standing → Type 0
Closed idle = Unit {0}
Closed (running k w) = ⊥
Closed (ended x) = Unit {0}

-- nor is one after an abandon
closed_in : (t : Standing) (e d : Meant) (a : PublishedAnswer) → e.standing ≡ t → AbandonsIn t e a d → Closed d.standing
closed_in idle e d a h q = subst Closed (sym (ap (λ (m : Meant). m.standing) q.1 ∙ h)) tt
closed_in (running k w) e d a h q = subst Closed (sym (ap (λ (m : Meant). m.standing) q.1)) tt
closed_in (ended x) e d a h q = subst Closed (sym (ap (λ (m : Meant). m.standing) q.1 ∙ h)) tt

-- what the verdict is where a text was loaded
loaded_by : (v : Result Content Refusal) (e d : Meant) → LoadsBy v e done d → v ≡ Ok d.sheet
loaded_by (Ok c) e d q = ap Ok (sym (ap (λ (m : Meant). m.sheet) q.1))
loaded_by (Err r) e d q = absurd (cc (q.0))

loaded_in : (t : Standing) (text : List ℕ) (e d : Meant) → Closed t → LoadsIn t text e done d → parse_sheet text ≡ Ok d.sheet
loaded_in idle text e d h q = loaded_by (parse_sheet text) e d q
loaded_in (running k w) text e d h q = absurd h
loaded_in (ended x) text e d h q = loaded_by (parse_sheet text) e d q

pub loaded_after : (text : List ℕ) (b e d : Meant) (a : PublishedAnswer) → Abandons b a e → Loads text e done d → parse_sheet text ≡ Ok d.sheet
loaded_after text b e d a h q = loaded_in e.standing text e d (closed_in b.standing b e a refl h) q

-- and where it was not: what is told is what is told of the refusal, and the engine means what it did
pub record Refusing (v : Result Content Refusal) (x : Unloaded) (e d : Meant) : Type 0 where
  pub refusal : Refusal
  pub verdict : v ≡ Err refusal
  pub told : published_not_loaded x ≡ published_not_loaded (Refused refusal)
  pub kept : d ≡ e

refused_by : (v : Result Content Refusal) (e d : Meant) (x : Unloaded) → LoadsBy v e (published_not_loaded x) d → Refusing v x e d
refused_by (Ok c) e d x q = absurd (cc (q.0))
refused_by (Err r) e d x q = record { refusal = r; verdict = refl; told = q.0; kept = q.1 }

refused_in : (t : Standing) (text : List ℕ) (e d : Meant) (x : Unloaded) → Closed t → LoadsIn t text e (published_not_loaded x) d → Refusing (parse_sheet text) x e d
refused_in idle text e d x h q = refused_by (parse_sheet text) e d x q
refused_in (running k w) text e d x h q = absurd h
refused_in (ended y) text e d x h q = refused_by (parse_sheet text) e d x q

pub refused_after : (text : List ℕ) (b e d : Meant) (a : PublishedAnswer) (x : Unloaded) → Abandons b a e → Loads text e (published_not_loaded x) d → Refusing (parse_sheet text) x e d
refused_after text b e d a x h q = refused_in e.standing text e d x (closed_in b.standing b e a refl h) q

-- texts of which the same is told have the same lines
same_values : (n m k i j l : ℕ) → numbered n (line k ∷ word i ∷ []) ≡ numbered m (line j ∷ word l ∷ []) → (n ≡ m) × (k ≡ j) × (i ≡ l)
same_values n m k i j l e = (cc, cc, cc)

same_lines : (x y : Unloaded) → published_not_loaded x ≡ published_not_loaded y → not_loaded_lines x ≡ not_loaded_lines y
same_lines x y e =
    let s = same_values (text_number x) (text_number y) (text_line x) (text_word x) (text_line y) (text_word y) e in
    rw (s.0, s.1, s.2) refl

-- what has come, into a recorder that was just made over so much memory
pub come_of : (v : Result Content Refusal) (f : ℕ → ℕ → Option ℤ) (n : ℕ) (capacity : ℕ → ℕ → ℕ) (k size : ℕ) (l : List (List ℤ)) (w r : ℕ) (x : Closing) (p : Recording) (b d : Meant)
    → k ≡ size → l ≡ [] → w ≡ 1 → r ≡ capacity size 1 → RunOrRefusal v f n (capacity k) (record { states = l; width = w; room = r }) x p b d → RunOrRefusal v f n (capacity size) (blank 1 (capacity size 1)) x p b d
come_of v f n capacity k size l w r x p b d e s g c h =
    let same : record { states = l; width = w; room = r } ≡ blank 1 (capacity size 1) = rw (s, g, c) refl in
    subst (λ (m : ℕ). RunOrRefusal v f n (capacity m) (blank 1 (capacity size 1)) x p b d) e (subst (λ (q : Recording). RunOrRefusal v f n (capacity k) q x p b d) same h)

-- the text of no states
no_text : states_text [] ≡ []
unfolding states_text_from
no_text = refl

-- what is shown of what comes of a text
pub shows_of : (v : Result Content Refusal) (f : ℕ → ℕ → Option ℤ) (n end : ℕ) (old new shut : List ℕ) (x : Closing) (b d : Meant) → InText v f n end old new x b d → shut ≡ closing_text x → Printed v f n (length old) (take end new) shut b d
shows_of (Ok c) f n end old new shut x b d h e = (h.come.0, h.recorder, h.come.2, h.kept, e ∙ ap closing_text h.come.1)
shows_of (Err r) f n end old new shut x b d h e =
    (h.kept ∙ ap (λ (p : Recording). states_text p.states) h.come.3 ∙ no_text, e ∙ ap closing_text h.come.1 ∙ same_lines h.come.0 (Refused r) h.come.2, h.come.4)

-- lines that do not fit change nothing
pub none_fit : {A : Type 0} (n k m : ℕ) (x y : A) → n ≡ k → m < n → y ≡ (if leb k m then x else y)
none_fit n k m x y e h =
    let f : leb k m ≡ false = grind arith in
    sym (ap (λ (b : Bool). if b then x else y) f)

-- lines that fit stand at the front
pub front_lines : (n : ℕ) (ls old new : List ℕ) → length ls ≤ 81 → 81 ≤ length old → n ≡ (if leb (length ls) (length old) then length ls else 0) → new ≡ (if leb (length ls) (length old) then ls ++ drop (length ls) old else old) → take n new ≡ ls
front_lines n ls old new s f e w =
    let t : leb (length ls) (length old) ≡ true = grind arith in
    let k : n ≡ length ls = e ∙ ap (λ (b : Bool). if b then length ls else 0) t in
    let m : new ≡ ls ++ drop (length ls) old = w ∙ ap (λ (b : Bool). if b then ls ++ drop (length ls) old else old) t in
    rw m (take_at ls (drop (length ls) old) n (sym k))

-- and no byte behind them changes; where they don't fit, none does
front_by : (b : Bool) (n : ℕ) (ls old new : List ℕ) → n ≡ (if b then length ls else 0) → new ≡ (if b then ls ++ drop (length ls) old else old) → WritesFront n old new
front_by true n ls old new e w =
    let l : length new ≡ length ls + length (drop (length ls) old) = ap length w ∙ length-append ls (drop (length ls) old) in
    record { inside = omega (arith, e, l); behind = rw (e, w) (drop_at ls (drop (length ls) old) (length ls) refl) }
front_by false n ls old new e w = record { inside = omega (arith, e); behind = ap (drop n) w }

pub front_of : (n : ℕ) (ls old new : List ℕ) → n ≡ (if leb (length ls) (length old) then length ls else 0) → new ≡ (if leb (length ls) (length old) then ls ++ drop (length ls) old else old) → WritesFront n old new
front_of n ls old new e w = front_by (leb (length ls) (length old)) n ls old new e w

-- lists of one length that agree from a place on are the same from there on
pub behind_of : {A : Type 0} (n : ℕ) (old new : List A) (d : A) → length new ≡ length old → ((k : ℕ) → n ≤ k → get_or new k d ≡ get_or old k d) → drop n new ≡ drop n old
behind_of n old new d e h =
    ext_get_or d (drop n new) (drop n old) (simp length-drop (ap (λ (l : ℕ). l - n) e))
    (λ k p. get_or-drop n new k d ∙ h (n + k) (omega arith) ∙ sym (get_or-drop n old k d))

-- a text that is taken from the front of a list has no more elements
pub inside_of : (n : ℕ) (l text : List ℕ) → take n l ≡ text → n ≡ length text → n ≤ length l
inside_of n l text e h = let t = sym (length-take n l) ∙ ap length e in omega (arith, t, h)
