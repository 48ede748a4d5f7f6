-- The arguments of a call by their place. A contract speaks of them as a chain of pairs, at entry as at exit: `e.0` is the first, `e.1.0` the
-- second, and so on. Assumes nothing.

abbrev pub second : {A B C : Type 0} → A × (B × C) → B
second e = e.1.0

abbrev pub third : {A B C D : Type 0} → A × (B × (C × D)) → C
third e = e.1.1.0

abbrev pub fourth : {A B C D E : Type 0} → A × (B × (C × (D × E))) → D
fourth e = e.1.1.1.0

abbrev pub fifth : {A B C D E F : Type 0} → A × (B × (C × (D × (E × F)))) → E
fifth e = e.1.1.1.1.0

abbrev pub sixth : {A B C D E F G : Type 0} → A × (B × (C × (D × (E × (F × G))))) → F
sixth e = e.1.1.1.1.1.0
