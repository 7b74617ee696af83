-- One state more, by what the step to it has come to. Assumes nothing.
use Rattle.std.proofs.Common.{◌≡◌, ℕ, suc, ◌+◌, ◌-◌, ◌<◌, ◌≤◌, Bool, true, false, if◌then◌else◌, List, [], ◌∷◌, length, take, ℤ, Ok, Result, sym, refl, ap, ◌∙◌, subst, arith}
use Rattle.meaning.specs.declared.duties.Stop.{Stop}
use Rattle.meaning.specs.Intervals.{Setting}
use Rattle.meaning.specs.Work.{Work}
use Rattle.meaning.specs.Runs.{stopped, recorded, finished, Steps}
use Rattle.meaning.proofs.Lists.{longer}
use Rattle.settling.specs.declared.settled.SettledState.{SettledState as State}
use Rattle.settling.specs.Stepped.{stepped}
use Rattle.board.specs.Work.{work_of}
use Rattle.settling.specs.declared.settler.Settler.{Settler}
use Rattle.calls.specs.declared.answers.Condition.{Condition}
use Rattle.calls.specs.declared.answers.Condition.TheVariants.{Open, Ended}
use Rattle.calls.specs.declared.answers.Ending.TheVariants.{Finished, Stopped}
use Rattle.calls.specs.declared.answers.NotAdvanced.{NotAdvanced}
use Rattle.engine.specs.Meant.{standing_by}
use Rattle.engine.specs.Advancing.{OneMore}
use Rattle.calls.specs.Standing.{Standing, running, ended, Recording, with_state}
use Rattle.calls.specs.Published.{PublishedAnswer, numbered, is_open, is_finished, count, state, published_stop}
use Rattle.calls.specs.Calls.{Settled, all_asked, no_room, met_stop, last_state, one_more}

-- there is no room
pub full : (S : Setting) (q : Recording) (w : Work) (k : ℕ) (s : Standing) → length q.states ≡ k → q.room ≡ 0 → s ≡ running k w → (n : ℕ) → Settled S (suc n) q w (numbered 34 (state k ∷ [])) s q
full S q w k s e r h n = rw (h, sym e) (no_room r)

-- the step meets a stop
pub stops_here : (S : Setting) (q : Recording) (w : Work) (k : ℕ) (t : Stop) → length q.states ≡ k → 0 < q.room → Steps S k w (stopped t) → (n : ℕ) → Settled S (suc n) q w (published_stop k t) (ended (Stopped (record { stop = t; state = k }))) q
stops_here S q w k t e r h n =
    subst (λ (j : ℕ). Settled S (suc n) q w (published_stop j t) (ended (Stopped (record { stop = t; state = j }))) q) e
    (met_stop r (subst (λ (j : ℕ). Steps S j w (stopped t)) (sym e) h))

-- the state is the last
pub ends_here : (S : Setting) (q p : Recording) (w u : Work) (k n : ℕ) (x : State) → length q.states ≡ k → 0 < q.room → x.last ≡ true → Steps S k w (stepped n (Ok x) u) → p ≡ with_state (take n x.numbers) q
    → (m : ℕ) → Settled S (suc m) q w (is_finished (count (length p.states) ∷ [])) (ended Finished) p
ends_here S q p w u k n x e r l h g m =
    let xs : List ℤ = take n x.numbers in
    let c : length (with_state xs q).states ≡ length q.states + 1 = omega (arith, longer q.states xs) in
    let a : Steps S (length q.states) w (finished xs) = subst (λ (j : ℕ). Steps S j w (finished xs)) (sym e) (subst (λ (b : Bool). Steps S k w (if b then finished xs else recorded xs u)) l h) in
    subst (λ (z : Recording). Settled S (suc m) q w (is_finished (count (length z.states) ∷ [])) (ended Finished) z) (sym g)
    (subst (λ (j : ℕ). Settled S (suc m) q w (is_finished (count j ∷ [])) (ended Finished) (with_state xs q)) (sym c) (last_state r a))

-- the work of a run that goes on
same_work : (j k : ℕ) (u v : Work) → running j u ≡ running k v → u ≡ v
same_work j k u v e = cc

-- the state is recorded, and others may follow
pub goes_on : (S : Setting) (q p : Recording) (w v : Work) (k j n : ℕ) (s : Standing) (x : State) → length q.states ≡ k → 0 < q.room → x.last ≡ false → Steps S k w (stepped n (Ok x) v) → p ≡ with_state (take n x.numbers) q → s ≡ running j v
    → (u : Work) → s ≡ running (length p.states) u → (m : ℕ) (a : PublishedAnswer) (t : Standing) (r : Recording) → Settled S m p u a t r → Settled S (suc m) q w a t r
goes_on S q p w v k j n s x e r l h g z u y m a t o f =
    let xs : List ℤ = take n x.numbers in
    let b : Steps S (length q.states) w (recorded xs v) = subst (λ (i : ℕ). Steps S i w (recorded xs v)) (sym e) (subst (λ (b : Bool). Steps S k w (if b then finished xs else recorded xs v)) l h) in
    let same : u ≡ v = same_work (length p.states) j u v (sym y ∙ z) in
    one_more r b (subst (λ (i : Recording). Settled S m i v a t o) g (subst (λ (i : Work). Settled S m p i a t o) same f))

-- by whether the state is the last
pub one_more_state : (S : Setting) (q p : Recording) (w : Work) (k n : ℕ) (x : State) (c : Condition) (d : Settler) → length q.states ≡ k → 0 < q.room → Steps S k w (stepped n (Ok x) (work_of d.board)) → p ≡ with_state (take n x.numbers) q
    → c ≡ (if x.last then Ended Finished else Open) → OneMore S q w (Ok x.last) (standing_by c d) p
one_more_state S q p w k n x c d e r h g f = by x.last refl
  where
    by : (b : Bool) → x.last ≡ b → OneMore S q w (Ok b) (standing_by c d) p
    by true l =
        let t : standing_by c d ≡ ended Finished = ap (λ (z : Condition). standing_by z d) (f ∙ ap (λ (b : Bool). if b then Ended Finished else Open) l) in
        subst (λ (z : Standing). OneMore S q w (Ok true) z p) (sym t) (ends_here S q p w (work_of d.board) k n x e r l h g)
    by false l =
        let t : standing_by c d ≡ running d.state (work_of d.board) = ap (λ (z : Condition). standing_by z d) (f ∙ ap (λ (b : Bool). if b then Ended Finished else Open) l) in
        goes_on S q p w (work_of d.board) k d.state n (standing_by c d) x e r l h g t

-- a run whose state was not the last is open
pub goes_on_open : (b : Bool) (c : Condition) → c ≡ (if b then Ended Finished else Open) → ◌≡◌ {A = Result Bool NotAdvanced} (Ok b) (Ok false) → c ≡ Open
goes_on_open true c f e = cc
goes_on_open false c f e = f

-- the states that are left at turn i, where the next is the last that is settled
pub all_of : (S : Setting) (n i : ℕ) (q p r : Recording) (w v : Work) (a : PublishedAnswer) (s : Standing) → i < n → ((a : PublishedAnswer) (t : Standing) (r : Recording) → Settled S (n - i) q w a t r → Settled S n p v a t r) → ((m : ℕ) → Settled S (suc m) q w a s r)
    → Settled S n p v a s r
all_of S n i q p r w v a s h f g =
    let e : suc (n - (i + 1)) ≡ n - i = omega arith in
    f a s r (subst (λ (m : ℕ). Settled S m q w a s r) e (g (n - (i + 1))))

-- no state is left
pub none_left : (S : Setting) (n i k : ℕ) (q p : Recording) (w v : Work) (s : Standing) → n ≤ i → k ≡ length q.states → s ≡ running (length q.states) w → ((a : PublishedAnswer) (t : Standing) (r : Recording) → Settled S (n - i) q w a t r → Settled S n p v a t r)
    → Settled S n p v (is_open (count k ∷ [])) s q
none_left S n i k q p w v s h e o f =
    let z : n - i ≡ 0 = omega arith in
    rw (e, o) (f (is_open (count (length q.states) ∷ [])) (running (length q.states) w) q (rw z all_asked))
