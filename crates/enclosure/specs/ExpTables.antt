-- What the private tables of e^ hold, by digit: each entry is one unit of 2^-30 wide. That e^ lies there is tested in proofs/Entries. Assumes nothing.
use Rattle.std.specs.Prelude.{List, [], ◌∷◌, ℕ, ◌+◌, get_or, map}
use Rattle.span.specs.declared.Span.{Span}

-- from m to m + 1, times 2^e / 2^1024
abbrev pub entry_of : ℕ → ℕ → Span
entry_of m e = record { lo = m; hi = m + 1; e = e }

-- the entry of a digit in a table of mantissas and exponents
abbrev pub entry_at : List (ℕ × ℕ) → ℕ → Span
entry_at table d = get_or (map (λ p. entry_of p.0 p.1) table) d (entry_of 0 0)

-- e^(d / 256)
unfoldable pub small_table : List Span
small_table =
    entry_of 1073741824 994 ∷ entry_of 1077944330 994 ∷ entry_of 1082163285 994 ∷ entry_of 1086398752 994
    ∷ entry_of 1090650797 994 ∷ entry_of 1094919483 994 ∷ entry_of 1099204877 994 ∷ entry_of 1103507043 994
    ∷ entry_of 1107826048 994 ∷ entry_of 1112161956 994 ∷ entry_of 1116514835 994 ∷ entry_of 1120884751 994
    ∷ entry_of 1125271770 994 ∷ entry_of 1129675959 994 ∷ entry_of 1134097385 994 ∷ entry_of 1138536117 994 ∷ []

-- e^(d / 16)
unfoldable pub sixteenth_table : List Span
sixteenth_table =
    entry_of 1073741824 994 ∷ entry_of 1142992221 994 ∷ entry_of 1216708886 994 ∷ entry_of 1295179868 994
    ∷ entry_of 1378711792 994 ∷ entry_of 1467631064 994 ∷ entry_of 1562285135 994 ∷ entry_of 1663043869 994
    ∷ entry_of 1770300984 994 ∷ entry_of 1884475588 994 ∷ entry_of 2006013822 994 ∷ entry_of 2135390598 994
    ∷ entry_of 1136555729 995 ∷ entry_of 1209857276 995 ∷ entry_of 1287886366 995 ∷ entry_of 1370947901 995 ∷ []

-- e^d
unfoldable pub one_table : List Span
one_table =
    entry_of 1073741824 994 ∷ entry_of 1459366444 995 ∷ entry_of 1983484643 996 ∷ entry_of 1347917565 998
    ∷ entry_of 1832009912 999 ∷ entry_of 1244979813 1001 ∷ entry_of 1692103002 1002 ∷ entry_of 1149903210 1004
    ∷ entry_of 1562880501 1005 ∷ entry_of 2124174833 1006 ∷ entry_of 1443526462 1008 ∷ entry_of 1961955875 1009
    ∷ entry_of 1333287251 1011 ∷ entry_of 1812125253 1012 ∷ entry_of 1231466786 1014 ∷ entry_of 1673736894 1015 ∷ []

-- e^(16 d)
unfoldable pub sixteen_table : List Span
sixteen_table =
    entry_of 1073741824 994 ∷ entry_of 1137422146 1017 ∷ entry_of 1204879153 1040 ∷ entry_of 1276336827 1063
    ∷ entry_of 1352032435 1086 ∷ entry_of 1432217318 1109 ∷ entry_of 1517157718 1132 ∷ entry_of 1607135673 1155
    ∷ entry_of 1702449943 1178 ∷ entry_of 1803417009 1201 ∷ entry_of 1910372121 1224 ∷ entry_of 2023670411 1247
    ∷ entry_of 2143688075 1270 ∷ entry_of 1135411808 1294 ∷ entry_of 1202749587 1317 ∷ entry_of 1274080963 1340
    ∷ entry_of 1349642784 1363 ∷ entry_of 1429685943 1386 ∷ entry_of 1514476216 1409 ∷ entry_of 1604295139 1432
    ∷ entry_of 1699440946 1455 ∷ entry_of 1800229557 1478 ∷ entry_of 1906995631 1501 ∷ entry_of 2020093672 1524
    ∷ entry_of 2139899210 1547 ∷ entry_of 1133405023 1571 ∷ entry_of 1200623786 1594 ∷ entry_of 1271829087 1617
    ∷ entry_of 1347257356 1640 ∷ entry_of 1427159043 1663 ∷ entry_of 1511799453 1686 ∷ entry_of 1601459625 1709 ∷ []
