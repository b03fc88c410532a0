-- What a page that is put, made or given up changes of what stands over a world, and of the free numbers.
use Rattle.std.proofs.Common.{◌≡◌, ◌∙◌, ℕ, ◌+◌, ◌<◌, ◌≤◌, Bool, true, false, eqb, List, length, replicate, Some, refl, sym, subst, ap, inl, inr, arith, rules, eq-eqb}
use Rattle.std.specs.Prelude.{◌||◌, ◌⊎◌, Contains, is_some, unwrap_or}
use Rattle.std.proofs.lemmas.Bool.{cases_eq, cases_lt, ne_eqb, lt-ltb, le-ltb}
use Rattle.std.proofs.lemmas.List.{length-replicate}
use Rattle.std.proofs.lemmas.List.Elements.{All-contains, All-from_recursion}
use Rattle.page_spec.specs.PageMap.{page_sizes}
use Rattle.page_spec.specs.View.{View, view_with}
use Rattle.engine_spec.specs.declared.pins.Pin.{Pin}
use Rattle.engine_spec.specs.declared.commits.PageImage.{PageImage}
use Rattle.engine_spec.specs.Change.{Change, image_of}
use Rattle.engine_spec.proofs.PageSets.{with_has, with_keeps, with_cases}
use Rattle.page_face.specs.declared.engine_tells.EngineTells.{Ghosts}
use Rattle.overlay.specs.Images.{with_put}
use Rattle.overlay.specs.Overlay.{OverlayState, own_image, has_own_image, over_change, with_own, put_in_overlay, first_in_overlay, with_new, with_freed_page, last_page, IsChangeInOrder}
use Rattle.overlay.specs.FreeNumbers.{IsFreeNumber}
use Rattle.overlay.specs.Live.{AreWhole, IsOfPin}
use Rattle.overlay.specs.Behind.{IsStill}
use Rattle.overlay.proofs.ImageLaws.{image_put, image_other, all_put}

-- a page that is put is one of its own
own_put : (change : Change) (page : ℕ) (bytes : List ℕ) → own_image (with_own change page bytes) page ≡ Some bytes
own_put change page bytes = elim (cases_lt change.base page) [
  | inl past ↦ rw (lt-ltb change.base page past, lt-ltb change.base page past) (image_put change.fresh page bytes)
  | inr below ↦ rw (le-ltb change.base page below, le-ltb change.base page below) (image_put change.changed page bytes)
]

-- and the others are as before
own_other : (change : Change) (page : ℕ) (bytes : List ℕ) (number : ℕ) → (number ≡ page → ⊥)
    → own_image (with_own change page bytes) number ≡ own_image change number
own_other change page bytes number apart = elim (cases_lt change.base page) [
  | inl past ↦ rw (lt-ltb change.base page past) (elim (cases_lt change.base number) [
    | inl above ↦ rw (lt-ltb change.base number above) (image_other change.fresh page bytes number apart)
    | inr under ↦ rw (le-ltb change.base number under) refl
  ])
  | inr below ↦ rw (le-ltb change.base page below) (elim (cases_lt change.base number) [
    | inl above ↦ rw (lt-ltb change.base number above) refl
    | inr under ↦ rw (le-ltb change.base number under) (image_other change.changed page bytes number apart)
  ])
]

-- what stands over a world then
pub over_put : (change : Change) (page : ℕ) (bytes : List ℕ) (world : View) (number : ℕ)
    → over_change (with_own change page bytes) world number ≡ view_with (over_change change world) page bytes number
over_put change page bytes world number = elim (cases_eq number page) [
  | inl same ↦
      rw (eq-eqb number page same)
      (subst (λ (n : ℕ). over_change (with_own change page bytes) world n ≡ bytes) (sym same)
      (ap (λ held. unwrap_or held (world page)) (own_put change page bytes)))
  | inr apart ↦ rw (ne_eqb number page apart) (ap (λ held. unwrap_or held (world number)) (own_other change page bytes number apart))
]

-- which pages are its own then
pub has_put : (change : Change) (page : ℕ) (bytes : List ℕ) (number : ℕ)
    → has_own_image (with_own change page bytes) number ≡ (has_own_image change number || eqb number page)
has_put change page bytes number = elim (cases_eq number page) [
  | inl same ↦
      rw (eq-eqb number page same)
      (subst (λ (n : ℕ). has_own_image (with_own change page bytes) n ≡ true) (sym same) (ap is_some (own_put change page bytes))
      ∙ or_true (has_own_image change number))
  | inr apart ↦ rw (ne_eqb number page apart) (ap is_some (own_other change page bytes number apart) ∙ or_false (has_own_image change number))
]
  where
    or_true : (b : Bool) → true ≡ (b || true)
    or_true true = refl
    or_true false = refl

    or_false : (b : Bool) → b ≡ (b || false)
    or_false true = refl
    or_false false = refl

-- none that was is forgotten
pub has_still : (change : Change) (page : ℕ) (bytes : List ℕ) (number : ℕ) → has_own_image change number ≡ true
    → has_own_image (with_own change page bytes) number ≡ true
has_still change page bytes number has = has_put change page bytes number ∙ ap (λ (b : Bool). b || eqb number page) has

-- the pages that were given up are the same
pub same_freed : (change : Change) (page : ℕ) (bytes : List ℕ) → (with_own change page bytes).freed ≡ change.freed
same_freed change page bytes = elim (cases_lt change.base page) [
  | inl past ↦ rw (lt-ltb change.base page past) refl
  | inr below ↦ rw (le-ltb change.base page below) refl
]

-- a number is free as before
pub free_put : (change : Change) (page : ℕ) (bytes : List ℕ) (number : ℕ) → last_page (with_own change page bytes) ≡ last_page change
    → IsFreeNumber change number → IsFreeNumber (with_own change page bytes) number
free_put change page bytes number last free = elim free [
  | inl past ↦ inl (omega (arith, last, past.0), past.1)
  | inr there ↦ inr (subst (λ (freed : List ℕ). Contains freed number) (sym (same_freed change page bytes)) there)
]

pub unfree_put : (change : Change) (page : ℕ) (bytes : List ℕ) (number : ℕ) → last_page (with_own change page bytes) ≡ last_page change
    → IsFreeNumber (with_own change page bytes) number → IsFreeNumber change number
unfree_put change page bytes number last free = elim free [
  | inl past ↦ inl (omega (arith, last, past.0), past.1)
  | inr there ↦ inr (subst (λ (freed : List ℕ). Contains freed number) (same_freed change page bytes) there)
]

-- how it was begun and where its snapshot ends stay
pub own_mode : (change : Change) (page : ℕ) (bytes : List ℕ) → (with_own change page bytes).mode ≡ change.mode
own_mode change page bytes = elim (cases_lt change.base page) [
  | inl past ↦ rw (lt-ltb change.base page past) refl
  | inr below ↦ rw (le-ltb change.base page below) refl
]

pub own_base : (change : Change) (page : ℕ) (bytes : List ℕ) → (with_own change page bytes).base ≡ change.base
own_base change page bytes = elim (cases_lt change.base page) [
  | inl past ↦ rw (lt-ltb change.base page past) refl
  | inr below ↦ rw (le-ltb change.base page below) refl
]

-- a page that was put since the mark isn't forgotten where one is put
pub since_put : (images : List PageImage) (page : ℕ) (bytes : List ℕ) (number : ℕ) → is_some (image_of images number) ≡ true
    → is_some (image_of (with_put images page bytes) number) ≡ true
since_put images page bytes number there = elim (cases_eq number page) [
  | inl same ↦ subst (λ (n : ℕ). is_some (image_of (with_put images page bytes) n) ≡ true) (sym same) (ap is_some (image_put images page bytes))
  | inr apart ↦ ap is_some (image_other images page bytes number apart) ∙ there
]

since_still : (overlay : OverlayState) (page : ℕ) (bytes : List ℕ) (number : ℕ) → is_some (image_of overlay.since number) ≡ true
    → is_some (image_of (put_in_overlay overlay page bytes).since number) ≡ true
since_still overlay page bytes number there = elim (cases_lt overlay.change.base page) [
  | inl past ↦ rw (lt-ltb overlay.change.base page past) there
  | inr below ↦ rw (le-ltb overlay.change.base page below) (since_put overlay.since page bytes number there)
]

-- the transaction is the same
pub still_put : (overlay : OverlayState) (page : ℕ) (bytes : List ℕ) → IsStill overlay (put_in_overlay overlay page bytes)
still_put overlay page bytes = record {
  snap = refl;
  mode = own_mode overlay.change page bytes;
  base = own_base overlay.change page bytes;
  marked = refl;
  since = λ number there. since_still overlay page bytes number there;
  wrote = refl;
}

-- and with page 1 put but for its freelist fields
pub still_first : (overlay : OverlayState) (bytes : List ℕ) → IsStill overlay (first_in_overlay overlay bytes)
still_first overlay bytes = record {
  snap = refl;
  mode = refl;
  base = refl;
  marked = refl;
  since = λ number there. since_put overlay.since 1 bytes number there;
  wrote = refl;
}

-- its pages are whole
whole_put : (change : Change) (size page : ℕ) (bytes : List ℕ) → length bytes ≡ size → AreWhole size change → AreWhole size (with_own change page bytes)
whole_put change size page bytes whole all = elim (cases_lt change.base page) [
  | inl past ↦
      rw (lt-ltb change.base page past)
      (record { changed = all.changed; fresh = all_put (λ (image : PageImage). length image.bytes ≡ size) change.fresh page bytes all.fresh whole })
  | inr below ↦
      rw (le-ltb change.base page below)
      (record { changed = all_put (λ (image : PageImage). length image.bytes ≡ size) change.changed page bytes all.changed whole; fresh = all.fresh })
]

module _ {E M : Type 0} (told : Ghosts E M) (engine : E) (pin : Pin) (overlay : OverlayState) (ready : IsOfPin told engine pin overlay) where
  -- the pages may be read with one put
  pub of_pin_put : (page : ℕ) (bytes : List ℕ) → length bytes ≡ (told.state engine).page_size
      → IsOfPin told engine pin (put_in_overlay overlay page bytes)
  of_pin_put page bytes whole = record {
    hold = ready.hold;
    snap = ready.snap;
    base = ready.base ∙ sym ((still_put overlay page bytes).base);
    whole = whole_put overlay.change (told.state engine).page_size page bytes whole ready.whole;
    marked = ready.marked;
  }

  -- and with page 1 put but for its freelist fields
  pub of_pin_first : (bytes : List ℕ) → length bytes ≡ (told.state engine).page_size → IsOfPin told engine pin (first_in_overlay overlay bytes)
  of_pin_first bytes whole = record {
    hold = ready.hold;
    snap = ready.snap;
    base = ready.base;
    whole = record {
      changed = all_put (λ (image : PageImage). length image.bytes ≡ (told.state engine).page_size) overlay.change.changed 1 bytes ready.whole.changed whole;
      fresh = ready.whole.fresh;
    };
    marked = ready.marked;
  }

  -- and with one made
  pub of_pin_new : IsOfPin told engine pin (record overlay { change = with_new overlay.change (told.state engine).page_size })
  of_pin_new = record {
    hold = ready.hold;
    snap = ready.snap;
    base = ready.base;
    whole = record {
      changed = ready.whole.changed;
      fresh = all_put (λ (image : PageImage). length image.bytes ≡ (told.state engine).page_size) overlay.change.fresh (last_page overlay.change + 1)
          (replicate (told.state engine).page_size 0) ready.whole.fresh (length-replicate (told.state engine).page_size 0);
    };
    marked = ready.marked;
  }

  -- and with one given up
  pub of_pin_freed : (page : ℕ) → IsOfPin told engine pin (record overlay { change = with_freed_page overlay.change page })
  of_pin_freed page = record {
    hold = ready.hold;
    snap = ready.snap;
    base = ready.base;
    whole = record { changed = ready.whole.changed; fresh = ready.whole.fresh };
    marked = ready.marked;
  }

-- what stands over a world where page 1 is put but for its freelist fields
pub over_first : (overlay : OverlayState) (bytes : List ℕ) (world : View) (number : ℕ) → 1 ≤ overlay.change.base
    → over_change (first_in_overlay overlay bytes).change world number ≡ view_with (over_change overlay.change world) 1 bytes number
over_first overlay bytes world number some =
    elim (cases_eq number 1) [
      | inl same ↦
          rw (eq-eqb number 1 same)
          (subst (λ (n : ℕ). over_change (first_in_overlay overlay bytes).change world n ≡ bytes) (sym same)
          (rw (le-ltb overlay.change.base 1 some) (ap (λ held. unwrap_or held (world 1)) (image_put overlay.change.changed 1 bytes))))
      | inr apart ↦ rw (ne_eqb number 1 apart) (elim (cases_lt overlay.change.base number) [
        | inl above ↦ rw (lt-ltb overlay.change.base number above) refl
        | inr under ↦
            rw (le-ltb overlay.change.base number under)
            (ap (λ held. unwrap_or held (world number)) (image_other overlay.change.changed 1 bytes number apart))
      ])
    ]

-- which pages are its own then
pub has_first : (overlay : OverlayState) (bytes : List ℕ) (number : ℕ) → has_own_image (first_in_overlay overlay bytes).change number ≡ true
    → (has_own_image overlay.change number ≡ true) ⊎ (number ≡ 1)
has_first overlay bytes number has = elim (cases_eq number 1) [
  | inl same ↦ inr same
  | inr apart ↦ inl (elim (cases_lt overlay.change.base number) [
    | inl above ↦ rw (lt-ltb overlay.change.base number above) (rw (lt-ltb overlay.change.base number above) at has)
    | inr under ↦
        rw (le-ltb overlay.change.base number under)
        (sym (ap is_some (image_other overlay.change.changed 1 bytes number apart)) ∙ (rw (le-ltb overlay.change.base number under) at has))
  ])
]

pub first_keeps : (overlay : OverlayState) (bytes : List ℕ) (number : ℕ) → has_own_image overlay.change number ≡ true
    → has_own_image (first_in_overlay overlay bytes).change number ≡ true
first_keeps overlay bytes number has = elim (cases_lt overlay.change.base number) [
  | inl above ↦ rw (lt-ltb overlay.change.base number above) (rw (lt-ltb overlay.change.base number above) at has)
  | inr under ↦
      rw (le-ltb overlay.change.base number under)
      (since_put overlay.change.changed 1 bytes number (rw (le-ltb overlay.change.base number under) at has))
]

-- a page that is made changes no other one
pub own_made : (change : Change) (size number : ℕ) → (number ≡ last_page change + 1 → ⊥) → own_image (with_new change size) number ≡ own_image change number
own_made change size number apart = elim (cases_lt change.base number) [
  | inl above ↦ rw (lt-ltb change.base number above) (image_other change.fresh (last_page change + 1) (replicate size 0) number apart)
  | inr under ↦ rw (le-ltb change.base number under) refl
]

pub over_made : (change : Change) (size : ℕ) (world : View) (number : ℕ) → (number ≡ last_page change + 1 → ⊥)
    → over_change (with_new change size) world number ≡ over_change change world number
over_made change size world number apart = ap (λ held. unwrap_or held (world number)) (own_made change size number apart)

-- none that was its own is forgotten
pub has_made : (change : Change) (size number : ℕ) → has_own_image change number ≡ true → has_own_image (with_new change size) number ≡ true
has_made change size number has = elim (cases_eq number (last_page change + 1)) [
  | inl same ↦
      (let past : change.base < number = omega (arith, same) in
      rw (lt-ltb change.base number past)
      (subst (λ (n : ℕ). is_some (image_of (with_new change size).fresh n) ≡ true) (sym same)
      (ap is_some (image_put change.fresh (last_page change + 1) (replicate size 0)))))
  | inr apart ↦ ap is_some (own_made change size number apart) ∙ has
]

module _ (change : Change) (size : ℕ) (last : last_page (with_new change size) ≡ last_page change + 1) where
  -- what is its own was so, or is the new page
  pub has_before : (number : ℕ) → has_own_image (with_new change size) number ≡ true → (has_own_image change number ≡ true) ⊎ (number ≡ last_page change + 1)
  has_before number has = elim (cases_eq number (last_page change + 1)) [
    | inl same ↦ inr same
    | inr apart ↦ inl (sym (ap is_some (own_made change size number apart)) ∙ has)
  ]

  -- the new page isn't free
  pub made_unfree : IsChangeInOrder change → IsFreeNumber (with_new change size) (last_page change + 1) → ⊥
  made_unfree order free = elim free [
    | inl past ↦ omega (arith, last, past.0)
    | inr there ↦ (let low = All-contains (λ (page : ℕ). page ≤ last_page change) change.freed (last_page change + 1) order.there there in omega arith)
  ]

  -- the others are free as before
  pub free_made : (number : ℕ) → (number ≡ last_page change + 1 → ⊥) → IsFreeNumber change number → IsFreeNumber (with_new change size) number
  free_made number apart free = elim free [
    | inl past ↦ inl (omega (arith, last, past.0, apart), past.1)
    | inr there ↦ inr there
  ]

  pub unfree_made : (number : ℕ) → IsFreeNumber (with_new change size) number → IsFreeNumber change number
  unfree_made number free = elim free [
    | inl past ↦ inl (omega (arith, last, past.0), past.1)
    | inr there ↦ inr there
  ]

-- a page that is given up is free, and the others are as before
pub freed_free : (change : Change) (page : ℕ) → IsFreeNumber (with_freed_page change page) page
freed_free change page = inr (with_has change.freed page)

pub free_freed : (change : Change) (page number : ℕ) → IsFreeNumber change number → IsFreeNumber (with_freed_page change page) number
free_freed change page number free = elim free [ inl past ↦ inl past | inr there ↦ inr (with_keeps change.freed page number there) ]

pub unfree_freed : (change : Change) (page number : ℕ) → (number ≡ page → ⊥) → IsFreeNumber (with_freed_page change page) number → IsFreeNumber change number
unfree_freed change page number apart free = elim free [
  | inl past ↦ inl past
  | inr there ↦ elim (with_cases change.freed page number there) [ inl same ↦ absurd (apart same) | inr others ↦ inr others ]
]

-- a legal page size
pub size_from : (size : ℕ) → Contains page_sizes size → 512 ≤ size
size_from size there = All-contains (λ (n : ℕ). 512 ≤ n) page_sizes size (All-from_recursion (λ (n : ℕ). 512 ≤ n) page_sizes (search rules)) there

pub size_to : (size : ℕ) → Contains page_sizes size → size ≤ 65536
size_to size there = All-contains (λ (n : ℕ). n ≤ 65536) page_sizes size (All-from_recursion (λ (n : ℕ). n ≤ 65536) page_sizes (search rules)) there
