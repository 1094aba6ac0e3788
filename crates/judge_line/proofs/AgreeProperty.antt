-- Property lines and `M  END` are judged as their rules say.
use Rattle.std.specs.Prelude.{ℕ, zero, suc, ◌+◌, ◌*◌, ◌≡◌, refl, List, [], ◌∷◌, not, length, ℤ}
use Rattle.std.proofs.Common.{sym, ap, ◌∙◌, subst}
use Rattle.std.proofs.lemmas.Bool.{not-true}
use Rattle.text.specs.Text.{Line}
use Rattle.text.specs.Columns.{SpacesFrom, Has, Within}
use Rattle.field_numbers.specs.Number.{Number}
use Rattle.rules.specs.Forms.{Kind, CHG, RAD, ISO, tag, Entry, EntryNumber, EntriesFrom, Property, PropertyLine, EndLine}
use Rattle.judge_line.specs.Got.{got}
use Rattle.judge_line.specs.GotLaws.{got_inj, bad_got, then_is, need_is, cond_by}
use Rattle.judge_line.specs.Field.{elem}
use Rattle.judge_line.specs.Judge.{PropertyOrEnd, property, last, entry_number_at, entries_of, list_of, property_of}
use Rattle.judge_line.specs.AgreeField.{on, after, number_got_lem, number_is, signed_got_lem, signed_is, space_got, space_is, spaces_got, spaces_is, has_got}
use Rattle.judge_line.specs.AgreeProperty.{NewEntries, Listing, tagged_is}

-- ---- an entry's number

entry_number_got : (l : Line) (i j : ℕ) (kind : Kind) (z : ℤ) → entry_number_at l i j kind ≡ got z → EntryNumber l i j kind z
unfolding entry_number_at
entry_number_got l i j CHG z h = EntryNumber.charge (signed_got_lem l i j _ _ z h)
entry_number_got l i j RAD z h =
    on _ _ z h (number_got_lem l i j _ _) λ k k_is h.
    subst (EntryNumber l i j RAD) (got_inj h) (EntryNumber.radical k_is)
entry_number_got l i j ISO z h =
    on _ _ z h (number_got_lem l i j _ _) λ k k_is h.
    subst (EntryNumber l i j ISO) (got_inj h) (EntryNumber.isotope k_is)

entry_number_is : (l : Line) (i j : ℕ) {kind : Kind} {z : ℤ} → EntryNumber l i j kind z → entry_number_at l i j kind ≡ got z
unfolding entry_number_at
entry_number_is l i j (EntryNumber.charge n) = signed_is n
entry_number_is l i j (EntryNumber.radical {k = k} n) = then_is _ _ k (number_is n)
entry_number_is l i j (EntryNumber.isotope {k = k} n) = then_is _ _ k (number_is n)

-- ---- entries

-- what so many entries from column i on are
record Entries (n : ℕ) (kind : Kind) (l : Line) (i k : ℕ) (seen : List ℕ) (es : List Entry) : Type 0 where
  count : length es ≡ k
  entries : EntriesFrom n kind l i es
  new : NewEntries seen es

entries_got : (n : ℕ) (kind : Kind) (l : Line) (i k : ℕ) (seen : List ℕ) (es : List Entry) → entries_of n kind l i k seen ≡ got es → Entries n kind l i k seen es
unfolding entries_of EntriesFrom NewEntries
entries_got n kind l i zero seen es h = subst (Entries n kind l i 0 seen) (got_inj h) (record { count = refl; entries = tt; new = tt })
entries_got n kind l i (suc k) seen es h =
    space_got l _ _ es h λ space h.
    on _ _ es h (number_got_lem l _ _ _ _) λ atom atom_is_lem h.
    after _ _ _ _ es h λ new h.
    space_got l _ _ es h λ between h.
    on _ _ es h (entry_number_got l _ _ kind) λ number is_number h.
    on _ _ es h (entries_got n kind l (i + 8) k (atom ∷ seen)) λ more more-are h.
    subst (Entries n kind l i (suc k) seen) (got_inj h)
    (record {
      count = ap suc more-are.count;
      entries = (record { space = space; atom = atom_is_lem; space_between = between; number = is_number }, more-are.entries);
      new = (not-true (elem atom seen) new, more-are.new);
    })

entries_is : (n : ℕ) (kind : Kind) (l : Line) (i : ℕ) (seen : List ℕ) (es : List Entry) →
    EntriesFrom n kind l i es → NewEntries seen es → entries_of n kind l i (length es) seen ≡ got es
unfolding entries_of EntriesFrom NewEntries
entries_is n kind l i seen [] h new = refl
entries_is n kind l i seen (e ∷ es) h new =
    space_is l _ _ h.0.space ∙
    then_is _ _ _ (number_is h.0.atom) ∙
    need_is _ _ _ _ (ap not new.0) ∙
    space_is l _ _ h.0.space_between ∙
    then_is _ _ _ (entry_number_is l _ _ h.0.number) ∙
    then_is _ _ _ (entries_is n kind l (i + 8) (e.atom ∷ seen) es h.1 new.1)

-- ---- a line of one kind

-- what a line of the kind is found to be
record Judged (n : ℕ) (seen : Kind → List ℕ) (l : Line) (r : PropertyOrEnd) : Type 0 where
  it : Property
  is : r ≡ property it
  listing : Listing n seen l it

list_got : (n : ℕ) (kind : Kind) (seen : Kind → List ℕ) (l : Line) (r : PropertyOrEnd) → Within 80 l → Has l 1 6 (tag kind) →
    list_of n kind (seen kind) l ≡ got r → Judged n seen l r
unfolding list_of
list_got n kind seen l r w tagged h =
    on _ _ r h (number_got_lem l _ _ _ _) λ k k_is h.
    on _ _ r h (entries_got n kind l 10 k (seen kind)) λ es es-are h.
    spaces_got l _ _ r h λ rest h.
    let e : k ≡ length es = sym es-are.count in
    record {
      it = record { kind = kind; entries = es };
      is = sym (got_inj h);
      listing = (
        record {
          line = w;
          tagged = tagged;
          count = subst (Number l 7 9 1 8) e k_is;
          entries = es-are.entries;
          rest = subst (λ (m : ℕ). SpacesFrom l (10 + 8 * m)) e rest;
        },
        es-are.new,
      );
    }

list_is : (n : ℕ) (seen : List ℕ) (l : Line) (p : Property) → PropertyLine n l p → NewEntries seen p.entries → list_of n p.kind seen l ≡ got (property p)
unfolding list_of
list_is n seen l p h new =
    then_is _ _ _ (number_is h.count) ∙
    then_is _ _ _ (entries_is n p.kind l 10 seen p.entries h.entries new) ∙
    spaces_is l _ _ h.rest

-- ---- any property line, or the end

-- what is found of a line stands for it
abbrev Means : ℕ → (Kind → List ℕ) → Line → PropertyOrEnd → Type 0
Means n seen l (property p) = Listing n seen l p
Means n seen l last = EndLine l

list_means : {n : ℕ} {seen : Kind → List ℕ} {l : Line} {r : PropertyOrEnd} → Judged n seen l r → Means n seen l r
list_means {n} {seen} {l} f = subst (Means n seen l) (sym f.is) f.listing

pub property_means : (n : ℕ) (seen : Kind → List ℕ) (l : Line) (r : PropertyOrEnd) → Within 80 l → property_of n seen l ≡ got r → Means n seen l r
unfolding property_of
property_means n seen l r w h =
    cond_by _ _ _ _ h (λ t h. list_means (list_got n CHG seen l r w (has_got l 1 6 (tag CHG) t) h)) λ t h.
    cond_by _ _ _ _ h (λ t h. list_means (list_got n RAD seen l r w (has_got l 1 6 (tag RAD) t) h)) λ t h.
    cond_by _ _ _ _ h (λ t h. list_means (list_got n ISO seen l r w (has_got l 1 6 (tag ISO) t) h)) λ t h.
    cond_by _ _ _ _ h
    (λ t h.
    spaces_got l _ _ r h λ rest h.
    subst (Means n seen l) {x = last} (got_inj h) (record { line = w; tagged = has_got l 1 6 "M  END" t; rest = rest }))
    λ t h. bad_got h

pub property_is : (n : ℕ) (seen : Kind → List ℕ) (l : Line) (p : Property) → Listing n seen l p → property_of n seen l ≡ got (property p)
property_is n seen l p h = tagged_is n seen l p.kind h.0.tagged ∙ list_is n (seen p.kind) l p h.0 h.1
