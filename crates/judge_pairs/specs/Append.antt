-- What may not stand twice, of a list that grows at its end.
use Rattle.std.specs.Prelude.{ℕ, ◌≡◌, ◌≢◌, ◌↔◌, List, [], ◌∷◌, ◌++◌}
use Rattle.std.proofs.Common.{sym, ◌∙◌}
use Rattle.rules.specs.Forms.{Bond, Entry}
use Rattle.rules.specs.Record.{SamePair, along, against, NewPair, NoPairTwice, NotListed}

-- ---- Bonds

pub same_back : {b c : Bond} → SamePair b c → SamePair c b
same_back (along e f) = along (sym e) (sym f)
same_back (against e f) = against (sym f) (sym e)

pub same_on : {b c d : Bond} → SamePair b c → SamePair c d → SamePair b d
same_on (along e f) (along g h) = along (e ∙ g) (f ∙ h)
same_on (along e f) (against g h) = against (e ∙ g) (f ∙ h)
same_on (against e f) (along g h) = against (e ∙ h) (f ∙ g)
same_on (against e f) (against g h) = along (e ∙ h) (f ∙ g)

-- a bond that joins the pair of a new one is new
pub new_like : {b c : Bond} (bs : List Bond) → SamePair b c → NewPair c bs → NewPair b bs
unfolding NewPair
new_like [] s n = tt
new_like (d ∷ bs) s n = ((λ t. n.0 (same_on (same_back s) t)), new_like bs s n.1)

-- new among two lists is new among both
pub new_append : (b : Bond) (bs cs : List Bond) → NewPair b (bs ++ cs) ↔ NewPair b bs × NewPair b cs
unfolding NewPair
new_append b [] cs = ((λ h. (tt, h)), (λ h. h.1))
new_append b (c ∷ bs) cs =
    let r = new_append b bs cs in
    ((λ h. ((h.0, (r.0 h.1).0), (r.0 h.1).1)), (λ h. (h.0.0, r.1 (h.0.1, h.1))))

-- the first bonds of a list without repeats are without repeats
pub pair_front : (bs cs : List Bond) → NoPairTwice (bs ++ cs) → NoPairTwice bs
unfolding NoPairTwice
pair_front [] cs h = tt
pair_front (b ∷ bs) cs h = (((new_append b bs cs).0 h.0).0, pair_front bs cs h.1)

-- none of the bonds joins the pair of b: the same, asked from the other side
unfoldable pub NoneJoins : List Bond → Bond → Type 0
NoneJoins [] b = Unit {0}
NoneJoins (c ∷ cs) b = ¬ SamePair c b × NoneJoins cs b

pub new_either : (b : Bond) (bs : List Bond) → NewPair b bs ↔ NoneJoins bs b
unfolding NewPair NoneJoins
new_either b [] = ((λ h. h), (λ h. h))
new_either b (c ∷ cs) =
    let r = new_either b cs in
    ((λ h. ((λ s. h.0 (same_back s)), r.0 h.1)), (λ h. ((λ s. h.0 (same_back s)), r.1 h.1)))

-- one bond more
pub pair_once : (bs : List Bond) (b : Bond) → NoPairTwice (bs ++ (b ∷ [])) ↔ NoPairTwice bs × NewPair b bs
unfolding NewPair NoPairTwice
pair_once [] b = ((λ h. (tt, tt)), (λ h. (tt, tt)))
pair_once (c ∷ bs) b =
    let r = pair_once bs b in
    let n = new_append c bs (b ∷ []) in (
      (λ h. (((n.0 h.0).0, (r.0 h.1).0), ((λ s. (n.0 h.0).1.0 (same_back s)), (r.0 h.1).1))),
      (λ h. (n.1 (h.0.0, ((λ s. h.1.0 (same_back s)), tt)), r.1 (h.0.1, h.1.1))),
    )

-- ---- Entries

pub not_listed_append : (a : ℕ) (es fs : List Entry) → NotListed a (es ++ fs) ↔ NotListed a es × NotListed a fs
unfolding NotListed
not_listed_append a [] fs = ((λ h. (tt, h)), (λ h. h.1))
not_listed_append a (e ∷ es) fs =
    let r = not_listed_append a es fs in
    ((λ h. ((h.0, (r.0 h.1).0), (r.0 h.1).1)), (λ h. (h.0.0, r.1 (h.0.1, h.1))))
