mod SpelledLaws
