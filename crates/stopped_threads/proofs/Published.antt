-- What a census and the desk say of bodies, and of the same bodies published or cleared.
use Rattle.std.proofs.Common.{◌≡◌, ◌+◌, ℕ, zero, suc, Bool, true, false, List, [], ◌∷◌, Some, None, length, refl, sym, ap, ◌∙◌, subst}
use Rattle.std.specs.Prelude.{◌==◌, ◌||◌, ◌&&◌}
use Rattle.std.specs.List.{list_all}
use Rattle.frames.specs.ImageView.{ImageView, IsSettled}
use Rattle.frames.specs.Stack.{serial_count}
use Rattle.bodies.specs.Bodies.{BodyView, IsPublished}
use Rattle.bodies.specs.Census.{total_count, IsCensus}
use Rattle.desk.specs.declared.entries.Live.{Live}
use Rattle.desk.specs.declared.faults.OperateFault.{OperateFault}
use Rattle.desk.specs.declared.faults.OperateFault.TheVariants.{NothingOpen, NotOf, AlreadyDone, NotAllHeld}
use Rattle.desk.specs.Machine.{State, Current}
use Rattle.operations.specs.Requests.{is_census}
use Rattle.desk.specs.Refusals.{AreSettled, has_body, are_all, front_is, MayOperate, operate_refused}
use Rattle.thread_list.specs.Moves.{IsCleared}
use Rattle.stopped_threads.specs.Held.{AreEach}
use Rattle.stopped_threads.proofs.Each.{some_is, each_count}

-- Where no frames change, a census counts the same.
each_total : (R : BodyView → BodyView → Type 0) (serial : ℕ) (xs ys : List BodyView) → ((a b : BodyView) → R a b → b.image.frames ≡ a.image.frames) → AreEach R xs ys → total_count serial ys ≡ total_count serial xs
each_total R serial [] [] f e = refl
each_total R serial [] (b ∷ bs) f e = absurd (let k : false ≡ true = e in cc)
each_total R serial (a ∷ xs) [] f e = absurd (let k : false ≡ true = e in cc)
each_total R serial (a ∷ xs) (b ∷ bs) f e =
    ap (λ fs. serial_count serial fs + total_count serial bs) (f a b e.0) ∙ ap (λ t. serial_count serial a.image.frames + t) (each_total R serial xs bs f e.1)

pub published_census : (xs ys : List BodyView) (list : List (ℕ × ℕ)) → AreEach IsPublished xs ys → IsCensus xs list → IsCensus ys list
published_census xs ys list e c = (c.0, λ serial. c.1 serial ∙ sym (each_total IsPublished serial xs ys (λ a b p. p.frames_stay) e))

pub cleared_census : (op : ℕ) (xs ys : List BodyView) (list : List (ℕ × ℕ)) → AreEach (IsCleared op) xs ys → IsCensus xs list → IsCensus ys list
cleared_census op xs ys list e c = (c.0, λ serial. c.1 serial ∙ sym (each_total (IsCleared op) serial xs ys (λ a b p. ap (λ (i : ImageView). i.frames) p.2) e))

-- A census of operated bodies is one of the bodies before.
operated_same : (op : ℕ) (a c : BodyView) → (b : BodyView) × IsPublished a b × IsCleared op b c → c.image.frames ≡ a.image.frames
operated_same op a c o = ap (λ (i : ImageView). i.frames) o.2.2 ∙ o.1.frames_stay

pub operated_census : (op : ℕ) (xs ys : List BodyView) (list : List (ℕ × ℕ)) → AreEach (λ a c. (b : BodyView) × IsPublished a b × IsCleared op b c) xs ys → IsCensus ys list → IsCensus xs list
operated_census op xs ys list e c =
    (c.0, λ serial. c.1 serial ∙ each_total (λ a c. (b : BodyView) × IsPublished a b × IsCleared op b c) serial xs ys (operated_same op) e)

published_has : (name : ℕ) (xs ys : List BodyView) → AreEach IsPublished xs ys → has_body name ys ≡ has_body name xs
published_has name [] [] e = refl
published_has name [] (b ∷ bs) e = absurd (let k : false ≡ true = e in cc)
published_has name (a ∷ xs) [] e = absurd (let k : false ≡ true = e in cc)
published_has name (a ∷ xs) (b ∷ bs) e =
    ap (λ m. (m == name) || has_body name bs) e.0.name_stays ∙ ap (λ t. (a.name == name) || t) (published_has name xs bs e.1)

published_all_have : (ls : List Live) (xs ys : List BodyView) → AreEach IsPublished xs ys → list_all (λ l. has_body l.name ys) ls ≡ list_all (λ l. has_body l.name xs) ls
published_all_have [] xs ys e = refl
published_all_have (l ∷ ls) xs ys e =
    ap (λ t. t && list_all (λ m. has_body m.name ys) ls) (published_has l.name xs ys e) ∙ ap (λ t. has_body l.name xs && t) (published_all_have ls xs ys e)

-- The names of the bodies are the same.
pub published_all : (ls : List Live) (xs ys : List BodyView) → AreEach IsPublished xs ys → are_all ls ys ≡ are_all ls xs
published_all ls xs ys e =
    ap (λ n. (length ls == n) && list_all (λ l. has_body l.name ys) ls) (each_count IsPublished xs ys e) ∙ ap (λ t. (length ls == length xs) && t) (published_all_have ls xs ys e)

pub published_settled : (xs ys : List BodyView) → AreEach IsPublished xs ys → AreSettled ys
published_settled [] [] e i b h = absurd (let k : None ≡ Some b = h in cc)
published_settled [] (y ∷ ys) e i b h = absurd (let k : false ≡ true = e in cc)
published_settled (x ∷ xs) [] e i b h = absurd (let k : false ≡ true = e in cc)
published_settled (x ∷ xs) (y ∷ ys) e zero b h = subst (λ (p : BodyView). IsSettled p.image) (some_is y b h) e.0.settled
published_settled (x ∷ xs) (y ∷ ys) e (suc i) b h = published_settled xs ys e.1 i b h

-- A census that may be operated over bodies isn't refused over the same, published.
both_fronts : (test : Current → Bool) (cs : List Current) → front_is test cs true → front_is test cs false → false ≡ true
both_fronts test [] t f = t
both_fronts test (c ∷ cs) t f = sym f ∙ t

pub not_refused : (s : State) (xs ys : List BodyView) (fault : OperateFault) → AreEach IsPublished xs ys → MayOperate s xs → operate_refused s ys fault → false ≡ true
not_refused s xs ys NothingOpen e may hit = subst (λ cs. front_is (λ c. is_census c.request) cs true) hit may.0
not_refused s xs ys NotOf e may hit = both_fronts (λ c. is_census c.request) s.opened may.0 hit
not_refused s xs ys AlreadyDone e may hit = both_fronts (λ c. c.operated) s.opened hit.1 may.1
not_refused s xs ys NotAllHeld e may hit = sym hit.2 ∙ published_all s.live xs ys e ∙ may.2
