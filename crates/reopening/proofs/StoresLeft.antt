-- What a crash leaves of a store on a disk has no foreign log, and each of its logs has the store's page size.
use Rattle.std.proofs.Common.{◌≡◌, ◌≢◌, inl, inr, ℕ, ◌*◌, ◌≤◌, max, true, List, [], ◌++◌, length, Option, Some, ◌∙◌, sym, ap, subst, arith}
use Rattle.std.specs.Prelude.{Bool, All}
use Rattle.disk_face.specs.declared.disk.File.{File}
use Rattle.disk_face.specs.declared.disk.File.TheVariants.{Main, Log1, Log2}
use Rattle.disk_face.specs.Files.{Files}
use Rattle.disk_face.specs.Steps.{History, reads}
use Rattle.disk_face.specs.Image.{MayLeave}
use Rattle.page_spec.specs.PageMap.{PageMap, page_at}
use Rattle.log_spec.specs.LogHeader.{LogFields, last_generation}
use Rattle.log_spec.specs.Accept.{Frame, last_size}
use Rattle.crash_spec.specs.Opening.{Opening}
use Rattle.crash_spec.specs.Known.{known_pieces, IsWithoutChance}
use Rattle.crash_spec.specs.Logs.{IsOursAt, NoneForeign, HaveSize}
use Rattle.crash_spec.specs.Recovered.{overlaid, recovered, size_of_first}
use Rattle.crash_spec.specs.Store.{AreOnDisk, named_size}
use Rattle.crash_spec.proofs.Headers.{none_foreign}
use Rattle.crash_spec.proofs.LogImages.{image_header}
use Rattle.crash_spec.proofs.NamedPages.{still_named}
use Rattle.crash_spec.proofs.StoreImages.{store_images}
use Rattle.recover.specs.Seeing.{generation_opened}
use Rattle.recover.proofs.SeenFiles.{legal_size}
use Rattle.store.specs.Opening.{AreOpened}
use Rattle.reopening.specs.Reopening.{IsStoreMap}
use Rattle.reopening.proofs.Reopened.{reopened}

module _ (opening : Opening) (told : History) (header older : LogFields) (frames pending other : List Frame) (size : ℕ) (image : Files) where
  -- the header of each log is the one on the medium
  pub sizes_left : (current : File) → AreOnDisk opening told current header older frames pending other size → header.page_size ≡ size → older.page_size ≡ size
      → MayLeave opening.before told image → HaveSize size image
  sizes_left Main on new old left log is some = absurd on.newest.is_log
  sizes_left Log1 on new old left Main is some = absurd is
  sizes_left Log1 on new old left Log1 is some = ap (λ (f : LogFields). f.page_size) (image_header opening told Log1 header frames pending on.newest image left) ∙ new
  sizes_left Log1 on new old left Log2 is some = ap (λ (f : LogFields). f.page_size) (image_header opening told Log2 older other [] on.oldest image left) ∙ old
  sizes_left Log2 on new old left Main is some = absurd is
  sizes_left Log2 on new old left Log1 is some = ap (λ (f : LogFields). f.page_size) (image_header opening told Log1 older other [] on.oldest image left) ∙ old
  sizes_left Log2 on new old left Log2 is some = ap (λ (f : LogFields). f.page_size) (image_header opening told Log2 header frames pending on.newest image left) ∙ new

  -- and each signed header that is known is one of ours
  pub store_left : (current : File) → AreOnDisk opening told current header older frames pending other size → header.page_size ≡ size → older.page_size ≡ size
      → All (IsOursAt Log1) (known_pieces opening told) → All (IsOursAt Log2) (known_pieces opening told) → MayLeave opening.before told image → IsWithoutChance opening told image
      → NoneForeign image × HaveSize size image
  store_left current on new old one two left chance = (none_foreign opening told image one two chance, sizes_left current on new old left)

-- an image that recovers to such a map is opened
pub map_opens : (long size : ℕ) (pages : PageMap) (image : Files) (hot : Option Bool) → (hot ≡ Some true → ⊥) → IsStoreMap long size pages → length image.main ≤ long
    → recovered image ≡ pages → NoneForeign image → HaveSize size image → generation_opened image ≤ last_generation → AreOpened hot image
map_opens long size pages image hot cold s shorter is fronts sizes room =
    let legal = legal_size (size_of_first pages) s.readable.header.page_size in
    reopened image pages hot cold (record {
      is = is;
      store = s.readable;
      named = still_named (page_at pages 1) (max (length image.main) (16 * size_of_first pages)) (max long (16 * size_of_first pages)) 16 (omega (arith, legal.0)) (omega arith) (omega arith) s.named;
      fronts = fronts;
      sizes = subst (λ (n : ℕ). HaveSize n image) (sym s.sized) sizes;
      versions = inl s.own;
      room = room;
    })

-- Whatever a crash leaves of a store on a disk is opened, where nothing in it is as it is by chance and its generations leave room.
pub store_opens : (opening : Opening) (told : History) (current : File) (header older : LogFields) (frames pending other : List Frame) (size : ℕ) (hot : Option Bool)
    → (hot ≡ Some true → ⊥) → AreOnDisk opening told current header older frames pending other size → header.page_size ≡ size → older.page_size ≡ size
    → named_size (reads told).main other frames ≡ size → (last_size pending ≢ 0 → named_size (reads told).main other (frames ++ pending) ≡ size)
    → All (IsOursAt Log1) (known_pieces opening told) → All (IsOursAt Log2) (known_pieces opening told)
    → IsStoreMap (length (reads told).main) size (overlaid (reads told).main other frames)
    → (last_size pending ≢ 0 → IsStoreMap (length (reads told).main) size (overlaid (reads told).main other (frames ++ pending)))
    → (image : Files) → MayLeave opening.before told image → IsWithoutChance opening told image → generation_opened image ≤ last_generation → AreOpened hot image
store_opens opening told current header older frames pending other size hot cold on new old named named_later one two map later image left chance room =
    let logs = store_left opening told header older frames pending other size image current on new old one two left chance in
    let shorter : length image.main ≤ length (reads told).main = (left Main).no_longer in
    elim (store_images opening told current header older frames pending other size on named named_later image left chance) [
      | inl is ↦ map_opens (length (reads told).main) size _ image hot cold map shorter is logs.0 logs.1 room
      | inr (some, is) ↦ map_opens (length (reads told).main) size _ image hot cold (later some) shorter is logs.0 logs.1 room
    ]
