-- The values that the matches have under a name.
use Rattle.std.proofs.Common.{◌≡◌, ◌∙◌, sym, ap, refl, Bool, true, false, List, [], ◌∷◌, ◌++◌, Option, Some, None, append_assoc, append-nil}
use Rattle.std.specs.Prelude.{if◌then◌else◌, cond, fold, find, option_map, unwrap_or}
use Rattle.std.specs.Str.{bytes_eq}
use Rattle.clap.specs.Walk.{Row, all_of, stronger}
use Rattle.words.specs.Words.{Item, Text, values}
use Rattle.words.proofs.Rules.{same_text, text_self}
use Rattle.words.proofs.Rows.{how, rows, with_row}
use Rattle.clap.specs.declared.parser.matches.ValueSource.TheVariants.{CommandLine}

-- one more value under a name
abbrev one_more : Bool → Option (List Text) → Text → Option (List Text)
one_more b old v = if b then Some (unwrap_or old [] ++ v ∷ []) else old

abbrev at_new : Text → Text → Row
at_new k v = record { id = k; values = v ∷ []; count = None; source = Some CommandLine; reading = how }

row_new : (k v id : Text) (b : Bool) → option_map (λ (r : Row). r.values) (cond b (Some (at_new k v)) None) ≡ one_more b None v
row_new k v id true = refl
row_new k v id false = refl

-- the row's name is the one that is looked up, and k is another
other : (k id n : Text) → bytes_eq n k ≡ false → bytes_eq n id ≡ true → (b : Bool) → bytes_eq k id ≡ b → bytes_eq k id ≡ false
other k id n e f false g = g
other k id n e f true g = let same : n ≡ k = same_text n id f ∙ sym (same_text k id g) in let bad : bytes_eq n k ≡ true = ap (λ x. bytes_eq x k) same ∙ text_self k in cc

-- at a row: it has the name k or not, and the name that is looked up or not
row_step : (k v id : Text) (r : Row) (rs : List Row) (same here : Bool) → bytes_eq r.id k ≡ same → bytes_eq r.id id ≡ here
    → all_of id (with_row rs (k, v)) ≡ one_more (bytes_eq k id) (all_of id rs) v
    → all_of id (with_row (r ∷ rs) (k, v)) ≡ one_more (bytes_eq k id) (all_of id (r ∷ rs)) v
row_step k v id r rs true here e f h = rw (e, f) (let g : bytes_eq k id ≡ here = ap (λ x. bytes_eq x id) (sym (same_text r.id k e)) ∙ f in rw g (elim here as (λ b. option_map (λ (x : Row). x.values) (cond b (Some (record r { values = r.values ++ v ∷ []; source = Some (stronger r.source CommandLine) })) (find (λ x. bytes_eq x.id id) rs)) ≡ one_more b (option_map (λ (x : Row). x.values) (cond b (Some r) (find (λ x. bytes_eq x.id id) rs))) v) [ true ↦ refl | false ↦ refl ]))
row_step k v id r rs false true e f h = let g : bytes_eq k id ≡ false = other k id r.id e f (bytes_eq k id) refl in rw (e, f, g) refl
row_step k v id r rs false false e f h = rw (e, f) h

rows_at : (k v id : Text) (rs : List Row) → all_of id (with_row rs (k, v)) ≡ one_more (bytes_eq k id) (all_of id rs) v
rows_at k v id [] = row_new k v id (bytes_eq k id)
rows_at k v id (r ∷ rs) = row_step k v id r rs (bytes_eq r.id k) (bytes_eq r.id id) refl refl (rows_at k v id rs)

-- all of them
abbrev more : Option (List Text) → List Text → Option (List Text)
more old [] = old
more old (v ∷ vs) = more (Some (unwrap_or old [] ++ v ∷ [])) vs

item_step : (k v id : Text) (old : Option (List Text)) (items : List Item) (b : Bool) → bytes_eq k id ≡ b → more (one_more b old v) (values id items) ≡ more old (values id ((k, v) ∷ items))
item_step k v id old items true e = rw e refl
item_step k v id old items false e = rw e refl

fold_at : (id : Text) (items : List Item) (rs : List Row) → all_of id (fold with_row rs items) ≡ more (all_of id rs) (values id items)
fold_at id [] rs = refl
fold_at id (p ∷ items) rs = fold_at id items (with_row rs p) ∙ ap (λ o. more o (values id items)) (rows_at p.0 p.1 id rs) ∙ item_step p.0 p.1 id (all_of id rs) items (bytes_eq p.0 id) refl

more_values : (old : Option (List Text)) (vs : List Text) → unwrap_or (more old vs) [] ≡ unwrap_or old [] ++ vs
more_values old [] = sym (append-nil (unwrap_or old []))
more_values old (v ∷ vs) = more_values (Some (unwrap_or old [] ++ v ∷ [])) vs ∙ append_assoc (unwrap_or old []) (v ∷ []) vs

pub values_at : (id : Text) (items : List Item) → unwrap_or (all_of id (rows items)) [] ≡ values id items
values_at id items = ap (λ o. unwrap_or o []) (fold_at id items []) ∙ more_values None (values id items)
