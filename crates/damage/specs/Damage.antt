-- The damage that a probit reads (document 01, "Probits and damage"; 003, Table 3).
use Rattle.std.specs.Prelude.{cond, ℕ, suc, ◌+◌, ◌*◌, List, [], ◌∷◌, ◌++◌, leb, ℤ, pos, negsuc}

-- the probits of 1 to 99 percent and of 99.1 to 99.9 percent, in hundredths; 99 is printed twice with one value and stands once
abbrev pub percents : List ℕ
percents =
    267 ∷ 295 ∷ 312 ∷ 325 ∷ 338 ∷ 345 ∷ 352 ∷ 359 ∷ 366
    ∷ 372 ∷ 377 ∷ 382 ∷ 386 ∷ 392 ∷ 396 ∷ 401 ∷ 405 ∷ 408 ∷ 412
    ∷ 416 ∷ 419 ∷ 423 ∷ 426 ∷ 429 ∷ 433 ∷ 436 ∷ 439 ∷ 442 ∷ 445
    ∷ 448 ∷ 450 ∷ 453 ∷ 456 ∷ 459 ∷ 461 ∷ 464 ∷ 467 ∷ 469 ∷ 472
    ∷ 475 ∷ 477 ∷ 480 ∷ 482 ∷ 485 ∷ 487 ∷ 490 ∷ 492 ∷ 495 ∷ 497
    ∷ 500 ∷ 503 ∷ 505 ∷ 508 ∷ 510 ∷ 513 ∷ 515 ∷ 518 ∷ 520 ∷ 523
    ∷ 525 ∷ 528 ∷ 531 ∷ 533 ∷ 536 ∷ 539 ∷ 541 ∷ 544 ∷ 547 ∷ 550
    ∷ 552 ∷ 555 ∷ 558 ∷ 561 ∷ 564 ∷ 567 ∷ 571 ∷ 574 ∷ 577 ∷ 581
    ∷ 584 ∷ 588 ∷ 592 ∷ 595 ∷ 599 ∷ 604 ∷ 608 ∷ 613 ∷ 618 ∷ 623
    ∷ 628 ∷ 634 ∷ 641 ∷ 648 ∷ 655 ∷ 664 ∷ 675 ∷ 688 ∷ 705 ∷ 733 ∷ []

abbrev pub last_tenths : List ℕ
last_tenths = 737 ∷ 741 ∷ 746 ∷ 751 ∷ 758 ∷ 765 ∷ 775 ∷ 788 ∷ 809 ∷ []

unfoldable pub table : List ℕ
table = percents ++ last_tenths

-- how many entries are not above a probit in thousandths
abbrev pub not_above : List ℕ → ℕ → ℕ
not_above [] probit = 0
not_above (x ∷ xs) probit = cond (leb (10 * x) probit) (suc (not_above xs probit)) (not_above xs probit)

-- the probability of the n-th entry in tenths of a percent: 0 before the first, 10 to 990 by tens, then 991 to 999
unfoldable pub tenths_of_percent : ℕ → ℕ
tenths_of_percent n = cond (leb n 99) (10 * n) (891 + n)

-- the greatest tabulated probability whose probit is not above: the table rises, so that it is that of the last entry counted (laws/Readings, `damage_is_greatest`)
unfoldable pub damage : ℤ → ℕ
damage (pos probit) = tenths_of_percent (not_above table probit)
damage (negsuc n) = 0
