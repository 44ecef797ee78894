-- The image of lines without a fault.
use Rattle.std.proofs.Common.{◌≡◌, ℕ, ◌+◌, ◌-◌, ◌%◌, ◌^◌, ◌<◌, ◌≤◌, List, length, replicate, Some, None, Result, Ok, Err, refl, sym, ap, ◌∙◌, arith, length-append, IfSome}
use Rattle.std.specs.Option.{option_map}
use Rattle.std.specs.List.{All, AllPairs}
use Rattle.std.proofs.lemmas.List.{length-replicate}
use Rattle.std.proofs.lemmas.Bool.{lt-ltb, le-ltb}
use Rattle.rv_inst.specs.Image.{image_start}
use Rattle.asm_text.specs.declared.slots.What.{What}
use Rattle.asm_text.specs.Lines.{LineOf}
use Rattle.rv_asm.specs.declared.error.AsmError.TheVariants.{TooLong}
use Rattle.rv_asm.specs.Layout.{base, limit, end_of, label_among, service_among}
use Rattle.rv_asm.specs.Faults.{Labels, Services, first_fault}
use Rattle.rv_asm.specs.Bytes.{all_bytes, address_of}
use Rattle.rv_asm.specs.Images.{stub, filled, service_row, services_below, image_bytes, image_from}
use Rattle.rv_asm.proofs.Faultless.{lines_len, placed}
use Rattle.rv_asm.proofs.Reached.{address_reached}
use Rattle.rv_asm.proofs.Services.{below_all, below_ascend}

module _ (labels : Labels) (services : Services) (lines : List (Result LineOf What)) (faultless : first_fault labels services 1 base lines ≡ None) where
  image_len : length (image_bytes labels lines) + image_start ≡ end_of base lines
  image_len = omega (arith, length-append stub (all_bytes labels base lines), lines_len labels services 1 base lines faultless)

  pub too_long : (main end : ℕ) → end ≡ end_of base lines → limit < end - image_start → Err TooLong ≡ image_from labels services lines main
  too_long main end e h = rw (lt-ltb limit (length (image_bytes labels lines)) (omega (arith, image_len))) refl

  pub is_image : (main end : ℕ) → end ≡ end_of base lines → end - image_start ≤ limit → (bytes : List ℕ) (table : List (ℕ × ℕ))
      → bytes ≡ filled (image_bytes labels lines) → table ≡ services_below 256 labels services
      → Ok (record { bytes = bytes; main = main; services = table }) ≡ image_from labels services lines main
  is_image main end e h bytes table b t =
      rw (le-ltb limit (length (image_bytes labels lines)) (omega (arith, image_len)), b, t) refl

  pub bytes_fit : (end : ℕ) → end ≡ end_of base lines → end - image_start ≤ limit → (bytes : List ℕ) → bytes ≡ filled (image_bytes labels lines) → length bytes ≤ limit
  bytes_fit end e h bytes b =
      let n : ℕ = length (image_bytes labels lines) in
      omega (arith, ap length b, length-append (image_bytes labels lines) (replicate ((4 - n % 4) % 4) 0), length-replicate {A = ℕ} ((4 - n % 4) % 4) 0, image_len)

  row_placed : ((n : ℕ) → services n ≡ service_among 1 lines n) → (n : ℕ) → IfSome (service_row labels services n) (λ row. row.1 % 4 ≡ 0)
  row_placed given n =
      elim (services n) as (λ o. services n ≡ o → IfSome {T = ℕ × ℕ} (option_map (λ s. (n, address_of labels s.label)) o) (λ row. row.1 % 4 ≡ 0)) [
        | None ↦ λ e. tt
        | Some s ↦ λ e. placed labels services 1 base 1 n lines s faultless (sym (given n) ∙ e)
      ] refl

  pub services_placed : ((n : ℕ) → services n ≡ service_among 1 lines n) → (table : List (ℕ × ℕ)) → table ≡ services_below 256 labels services
      → All (λ row. row.1 % 4 ≡ 0) table
  services_placed given table t = rw t (below_all (λ row. row.1 % 4 ≡ 0) labels services (row_placed given) 256)

  pub services_ascend : (table : List (ℕ × ℕ)) → table ≡ services_below 256 labels services → AllPairs (λ x y. x.0 < y.0) table
  services_ascend table t = rw t (below_ascend labels services 256)

  row_short : (end : ℕ) → end ≡ end_of base lines → end - image_start ≤ limit → ((w : List ℕ) → labels w ≡ label_among 1 base lines w)
      → (n : ℕ) → IfSome (service_row labels services n) (λ row. row.1 < 2 ^ 32)
  row_short end e h given n =
      elim (services n) as (λ o. IfSome {T = ℕ × ℕ} (option_map (λ s. (n, address_of labels s.label)) o) (λ row. row.1 < 2 ^ 32)) [
        | None ↦ tt
        | Some s ↦ omega (arith, e, h, address_reached labels 1 base lines s.label (given s.label))
      ]

  pub services_short : (end : ℕ) → end ≡ end_of base lines → end - image_start ≤ limit → ((w : List ℕ) → labels w ≡ label_among 1 base lines w)
      → (table : List (ℕ × ℕ)) → table ≡ services_below 256 labels services → All (λ row. row.1 < 2 ^ 32) table
  services_short end e h given table t = rw t (below_all (λ row. row.1 < 2 ^ 32) labels services (row_short end e h given) 256)
